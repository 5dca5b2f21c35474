-- A chart as an SVG drawing: a board for each state, and one for each layer of a touch layout, one below the other.
use Rattle.std.specs.Prelude.{ℕ, ◌+◌, ◌-◌, ◌*◌, List, [], ◌∷◌, ◌++◌, length, codes}
use Rattle.std.specs.List.{concat}
use Rattle.std.specs.Fmt.{decimal}
use Rattle.chart_board.specs.declared.charts.Chart.{Chart}
use Rattle.chart_board.specs.declared.charts.Layer.{Layer}
use Rattle.touch_board.specs.declared.layers.TouchLayer.{TouchLayer}
use Rattle.chart_drawing.specs.declared.pictures.TheConstants.{STYLE, LEGEND}
use Rattle.chart_drawing.specs.Boards.{board_height, boards, legend_head, short_title}
use Rattle.chart_drawing.specs.Touch.{below_boards, legend_height, touch_part, widest}

-- the place below the boards of these numbers of keys and states, which begin below the title
unfoldable pub boards_end : ℕ → ℕ → ℕ
boards_end keys states = 72 + board_height keys * states

-- the height of a drawing with these numbers of keys and states, and with layers
unfoldable pub picture_height : ℕ → ℕ → List TouchLayer → ℕ
picture_height keys states layers = below_boards (boards_end keys states) layers + (legend_height layers + 24)

-- the width of a drawing: that of a board, or of the widest layer, with a margin on each side
abbrev pub picture_width : List TouchLayer → ℕ
picture_width layers = widest 960 layers + 16

-- the beginning of a drawing with a width and a height
unfoldable pub svg_head : ℕ → ℕ → List ℕ
svg_head width height = concat (
    codes "<svg xmlns='http://www.w3.org/2000/svg' viewBox='0 0 " ∷ decimal width ∷ codes " " ∷ decimal height ∷ codes "'>\n" ∷ [])

-- the styles of what a drawing has
unfoldable pub style : List ℕ
style = STYLE.now

-- the white background of a drawing with a width and a height
unfoldable pub page : ℕ → ℕ → List ℕ
page width height = concat (
    codes "<rect class='page' width='" ∷ decimal width ∷ codes "' height='" ∷ decimal height ∷ codes "'/>\n" ∷ [])

-- a title above the boards, at most 80 characters long
unfoldable pub title_line : List ℕ → List ℕ
title_line title = concat (codes "<text class='title' x='8' y='28'>" ∷ short_title 80 title ∷ codes "</text>\n" ∷ [])

-- what is before the boards of a drawing with a width and a height
unfoldable pub head : ℕ → ℕ → List ℕ → List ℕ
head width height title = concat (svg_head width height ∷ style ∷ page width height ∷ title_line title ∷ [])

-- what the legend says
unfoldable pub legend : List ℕ
legend = LEGEND.now

-- what is after the boards of a drawing: the legend, so far from the top
unfoldable pub foot : ℕ → List ℕ
foot top = concat (legend_head top ∷ legend ∷ codes "</text>\n</svg>\n" ∷ [])

-- the boards of a chart, with the layers of a touch layout below them
unfoldable pub chart_boards : Chart → List TouchLayer → List Layer → List ℕ
chart_boards chart layers taps =
    boards chart.keys (board_height (length chart.keys)) 72 chart.layers
    ++ touch_part (boards_end (length chart.keys) (length chart.layers)) layers taps

-- a chart as a drawing, with the layers of a touch layout and what tapping their keys does
unfoldable pub picture : Chart → List TouchLayer → List Layer → List ℕ
picture chart layers taps = concat (
    head (picture_width layers) (picture_height (length chart.keys) (length chart.layers) layers) chart.title
    ∷ chart_boards chart layers taps
    ∷ foot (picture_height (length chart.keys) (length chart.layers) layers - 8) ∷ [])
