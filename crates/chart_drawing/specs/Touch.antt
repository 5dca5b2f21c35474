-- A touch layout as part of a drawing: a board for each of its layers, one below the other.
use Rattle.std.specs.Prelude.{ℕ, ◌+◌, max, nat_eq, if◌then◌else◌, List, [], ◌∷◌, ◌++◌, length, flat_map, codes}
use Rattle.std.specs.List.{concat}
use Rattle.std.specs.Fmt.{decimal}
use Rattle.kmn_base.specs.Texts.{decoded}
use Rattle.chart_board.specs.declared.cells.Cell.{Cell}
use Rattle.chart_board.specs.declared.charts.Layer.{Layer}
use Rattle.touch_board.specs.declared.layers.TouchKey.{TouchKey}
use Rattle.touch_board.specs.declared.layers.TouchLayer.{TouchLayer}
use Rattle.chart_drawing.specs.declared.touch.TheConstants.{TOUCH_LEGEND}
use Rattle.chart_drawing.specs.Escaped.{escaped}
use Rattle.chart_drawing.specs.Boards.{key_drawing, board_head, legend_head, short_title}

-- the beginning of the small text below a key at a place
unfoldable pub more_head : ℕ → ℕ → List ℕ
more_head left top = concat (codes "<text class='cap' x='" ∷ decimal left ∷ codes "' y='" ∷ decimal (top + 70) ∷ codes "'><title>" ∷ [])

-- the small text below a key at a place, at most 12 characters long, with the whole text, which a reader of the drawing shows on demand
unfoldable pub more_text : ℕ → ℕ → List ℕ → List ℕ
more_text left top chars =
    if nat_eq (length chars) 0 then []
    else concat (more_head left top ∷ flat_map escaped chars ∷ codes "</title>" ∷ short_title 12 chars ∷ codes "</text>\n" ∷ [])

-- a key of a layer, with what tapping it does, and what else it can do below it
unfoldable pub touch_key : ℕ → TouchKey → Cell → List ℕ
touch_key mods key cell = key_drawing mods key.key cell ++ more_text key.key.left key.key.top (decoded key.more)

-- the keys of a layer, each with what tapping it does
abbrev pub touch_keys : ℕ → List TouchKey → List Cell → List ℕ
touch_keys mods (key ∷ keys) (cell ∷ cells) = touch_key mods key cell ++ touch_keys mods keys cells
touch_keys mods keys cells = []

-- the name of a layer: its platform and its id
unfoldable pub layer_name : TouchLayer → List ℕ
layer_name layer = concat (flat_map escaped (decoded layer.platform) ∷ codes " " ∷ short_title 80 (decoded layer.id) ∷ [])

-- the board of a layer, so far from the top
unfoldable pub layer_board : ℕ → TouchLayer → Layer → List ℕ
layer_board top layer taps = concat (
    board_head top ∷ layer_name layer ∷ codes "</text>\n" ∷ touch_keys taps.mods layer.keys taps.cells ∷ codes "</g>\n" ∷ [])

-- the place below the board of a layer: its rows and a heading
abbrev pub below_board : ℕ → TouchLayer → ℕ
below_board top layer = top + (40 + layer.height)

-- the boards of layers, each below the one before
abbrev pub touch_boards : ℕ → List TouchLayer → List Layer → List ℕ
touch_boards top (layer ∷ layers) (taps ∷ more) = layer_board top layer taps ++ touch_boards (below_board top layer) layers more
touch_boards top layers taps = []

-- the place below the boards of layers
abbrev pub below_boards : ℕ → List TouchLayer → ℕ
below_boards top [] = top
below_boards top (layer ∷ layers) = below_boards (below_board top layer) layers

-- the width of the widest of these layers, or a width if none is wider
abbrev pub widest : ℕ → List TouchLayer → ℕ
widest width [] = width
widest width (layer ∷ layers) = widest (max width layer.width) layers

-- the legend of the keys of layers
unfoldable pub touch_legend_text : List ℕ
touch_legend_text = TOUCH_LEGEND.now

-- the legend of layers if there are any, below the place
unfoldable pub touch_legend : ℕ → List TouchLayer → List ℕ
touch_legend place layers =
    if nat_eq (length layers) 0 then []
    else concat (legend_head (place + 16) ∷ touch_legend_text ∷ codes "</text>\n" ∷ [])

-- the height of this legend
abbrev pub legend_height : List TouchLayer → ℕ
legend_height layers = if nat_eq (length layers) 0 then 0 else 20

-- the layers of a layout with their legend, from a place on
unfoldable pub touch_part : ℕ → List TouchLayer → List Layer → List ℕ
touch_part top layers taps = touch_boards top layers taps ++ touch_legend (below_boards top layers) layers
