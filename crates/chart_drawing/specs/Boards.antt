-- The boards of a drawing, one for each state, one below the other.
use Rattle.std.specs.Prelude.{ℕ, ◌+◌, ◌-◌, ◌*◌, ◌/◌, nat_eq, nat_le, if◌then◌else◌, List, [], ◌∷◌, ◌++◌, length, take, flat_map, codes}
use Rattle.std.specs.List.{concat}
use Rattle.std.specs.Fmt.{decimal}
use Rattle.kmn_base.specs.declared.keys.KeyPress.{KeyPress}
use Rattle.kmn_base.specs.Texts.{decoded}
use Rattle.virtual_keys.specs.Fits.{has}
use Rattle.virtual_keys.specs.Keys.{shift_flags}
use Rattle.chart_board.specs.declared.board.Key.{Key}
use Rattle.chart_board.specs.declared.cells.Cell.{Cell}
use Rattle.chart_board.specs.declared.charts.Layer.{Layer}
use Rattle.chart_board.specs.Cells.{is_us, is_empty}
use Rattle.chart_drawing.specs.Escaped.{escaped, cut}
use Rattle.chart_drawing.specs.Glyphs.{glyphs, description}
use Rattle.chart_board.specs.States.{press_in}

-- the class of a key: passed on, as on a US board, or what rules make of it
unfoldable pub class : KeyPress → Cell → List ℕ
class press cell = if is_empty cell then codes "passed" else if is_us press cell then codes "us" else codes "ruled"

-- the whole text of a key, which a reader of the drawing shows on demand
unfoldable pub key_title : List ℕ → Cell → List ℕ
key_title cap cell = concat (codes "<title>" ∷ flat_map escaped cap ∷ codes ": " ∷ description cell ∷ codes "</title>" ∷ [])

-- the frame of a key, and the beginning of its key cap
unfoldable pub frame_head : ℕ → List ℕ
frame_head width = concat (codes "<rect width='" ∷ decimal width ∷ codes "' height='60' rx='6'/><text class='cap' x='6' y='13'>" ∷ [])

-- the frame of a key with its key cap, at most six characters long
unfoldable pub key_frame : ℕ → List ℕ → List ℕ
key_frame width cap = concat (frame_head width ∷ cut 6 cap ∷ codes "</text>" ∷ [])

-- the beginning of a key of a class at a place
unfoldable pub key_head : List ℕ → ℕ → ℕ → List ℕ
key_head class left top = concat (
    codes "<g class='" ∷ class ∷ codes "' transform='translate(" ∷ decimal left ∷ codes "," ∷ decimal top ∷ codes ")'>" ∷ [])

-- a key with a key cap in a state, with what its press does
unfoldable pub key_with_cap : ℕ → Key → List ℕ → Cell → List ℕ
key_with_cap mods key cap cell = concat (
    key_head (class (press_in mods key.code) cell) key.left key.top ∷ key_title cap cell ∷ key_frame key.width cap
    ∷ glyphs (key.width / 2) cell ∷ codes "</g>\n" ∷ [])

-- a key in a state, with what its press does
unfoldable pub key_drawing : ℕ → Key → Cell → List ℕ
key_drawing mods key cell = key_with_cap mods key (decoded key.cap) cell

-- the keys in a state, each with what its press does
abbrev pub key_drawings : ℕ → List Key → List Cell → List ℕ
key_drawings mods (key ∷ keys) (cell ∷ cells) = key_drawing mods key cell ++ key_drawings mods keys cells
key_drawings mods keys cells = []

-- a word of a flag that a state has
abbrev pub flag_word : ℕ → List ℕ × ℕ → List ℕ
flag_word mods row = if has mods row.1 then (codes " " ++ row.0) else []

-- the name of a state: the words of its flags
unfoldable pub state_name : ℕ → List ℕ
state_name mods = if nat_eq mods 0 then codes "plain" else flat_map (flag_word mods) shift_flags

-- the beginning of a board, so far from the top
unfoldable pub board_head : ℕ → List ℕ
board_head top = concat (codes "<g transform='translate(8," ∷ decimal top ∷ codes ")'><text class='state' x='0' y='-8'>" ∷ [])

-- the board of a state, so far from the top
unfoldable pub board : List Key → ℕ → Layer → List ℕ
board keys top layer = concat (
    board_head top ∷ state_name layer.mods ∷ codes "</text>\n" ∷ key_drawings layer.mods keys layer.cells ∷ codes "</g>\n" ∷ [])

-- the boards of states, each below the one before
abbrev pub boards : List Key → ℕ → ℕ → List Layer → List ℕ
boards keys height top [] = []
boards keys height top (layer ∷ layers) = board keys top layer ++ boards keys height (top + height) layers

-- the height of a board with this number of keys: five rows of the 52 keys of the US board, rows of 15 other keys, and a heading
unfoldable pub board_height : ℕ → ℕ
board_height keys = 64 * (5 + (keys - 52 + 14) / 15) + 40

-- a title, of more than a limit all before the last place, and an ellipsis in that place
unfoldable pub short_title : ℕ → List ℕ → List ℕ
short_title limit title =
    if nat_le (length title) limit then flat_map escaped title else (flat_map escaped (take (limit - 1) title) ++ codes "&#8230;")

-- the beginning of a legend, so far from the top
unfoldable pub legend_head : ℕ → List ℕ
legend_head top = concat (codes "<text class='legend' x='8' y='" ∷ decimal top ∷ codes "'>" ∷ [])
