-- How a chart draws what a press does, around the center of its key.
use Rattle.std.specs.Prelude.{ℕ, ◌+◌, ◌&&◌, nat_eq, nat_le, nat_lt, if◌then◌else◌, List, [], ◌∷◌, ◌++◌, length, flat_map, codes}
use Rattle.std.specs.List.{concat}
use Rattle.std.specs.Fmt.{decimal}
use Rattle.kmn_base.specs.declared.items.Item.{Item}
use Rattle.kmn_base.specs.declared.items.Item.TheVariants.{Char, Mark}
use Rattle.kmn_base.specs.Lists.{characters}
use Rattle.rule_model.specs.Lines.{hexadecimal}
use Rattle.chart_board.specs.declared.cells.Cell.{Cell}
use Rattle.chart_drawing.specs.declared.characters.TheConstants.{COMBINING, HIDDEN}
use Rattle.chart_board.specs.Cells.{marks}
use Rattle.chart_drawing.specs.Escaped.{escaped, cut, is_in}

-- the size of a text with a number of characters, so that wide ones fit on a key
unfoldable pub text_size : ℕ → ℕ
text_size count =
    if nat_le count 2 then 24 else if nat_eq count 3 then 18 else if nat_eq count 4 then 13 else if nat_eq count 5 then 10 else 9

-- the dotted circle before a combining mark that begins a text
unfoldable pub circle : ℕ → List ℕ
circle c = if is_in COMBINING c then codes "&#9676;" else []

-- the beginning of a text of a size, at a height
unfoldable pub text_head : ℕ → ℕ → ℕ → List ℕ
text_head center height size = concat (
    codes "<text class='text' x='" ∷ decimal center ∷ codes "' y='" ∷ decimal height ∷ codes "' font-size='" ∷ decimal size ∷ codes "'>" ∷ [])

-- a text with its first character at a height, at most six characters long
unfoldable pub long_text : ℕ → ℕ → ℕ → List ℕ → List ℕ
long_text center height c chars =
    concat (text_head center height (text_size (length chars)) ∷ circle c ∷ cut 6 chars ∷ codes "</text>" ∷ [])

-- the beginning of the code of a character, at a height
unfoldable pub code_head : ℕ → ℕ → List ℕ
code_head center height = concat (codes "<text class='code' x='" ∷ decimal center ∷ codes "' y='" ∷ decimal height ∷ codes "'>" ∷ [])

-- a character by its code, at a height
unfoldable pub code_text : ℕ → ℕ → ℕ → List ℕ
code_text center height c = concat (code_head center height ∷ hexadecimal c ∷ codes "</text>" ∷ [])

-- the text that a press inserts, at a height: a single character that nobody sees by its code
unfoldable pub text_drawing : ℕ → ℕ → List ℕ → List ℕ
text_drawing center height [] = []
text_drawing center height (c ∷ chars) =
    if nat_eq (length chars) 0 && is_in HIDDEN c then code_text center height c else long_text center height c (c ∷ chars)

-- the height of the baseline of a text: in the middle of a key, and above the rings of marks
abbrev pub text_height : List ℕ → ℕ
text_height marks = if nat_eq (length marks) 0 then 42 else 33

-- the size of a mark's number
abbrev pub number_size : ℕ → ℕ
number_size mark = if nat_lt mark 1000 then 9 else 6

-- a ring, so far from the center
unfoldable pub circle_at : List ℕ → List ℕ
circle_at shift = concat (codes "<circle cx='" ∷ shift ∷ codes "' r='9'/>" ∷ [])

-- a number of a size, so far from the center
unfoldable pub number_at : List ℕ → ℕ → ℕ → List ℕ
number_at shift size number = concat (
    codes "<text x='" ∷ shift ∷ codes "' y='3' font-size='" ∷ decimal size ∷ codes "'>" ∷ decimal number ∷ codes "</text>" ∷ [])

-- a mark as a ring with its number, so far from the center
unfoldable pub ring : List ℕ → ℕ → List ℕ
ring shift mark = circle_at shift ++ number_at shift (number_size mark) mark

-- an ellipsis in place of more marks
abbrev pub more_rings : List ℕ → List ℕ
more_rings marks = if nat_eq (length marks) 0 then [] else codes "<text x='25' y='3' font-size='9'>&#8230;</text>"

-- the rings of marks, in order; of more than two the first two and an ellipsis
unfoldable pub ring_row : List ℕ → List ℕ
ring_row [] = []
ring_row (a ∷ []) = ring (codes "0") a
ring_row (a ∷ b ∷ marks) = ring (codes "-10") a ++ (ring (codes "10") b ++ more_rings marks)

-- the height at which the rings are: below a text, and in the middle of a key without one
abbrev pub ring_height : List ℕ → ℕ
ring_height chars = if nat_eq (length chars) 0 then 34 else 49

-- the beginning of a row of rings, at a height
unfoldable pub rings_head : ℕ → ℕ → List ℕ
rings_head center height = concat (
    codes "<g class='ring' transform='translate(" ∷ decimal center ∷ codes "," ∷ decimal height ∷ codes ")'>" ∷ [])

-- the rings of the marks that a press puts, at a height
unfoldable pub rings : ℕ → ℕ → List ℕ → List ℕ
rings center height [] = []
rings center height (mark ∷ marks) = concat (rings_head center height ∷ ring_row (mark ∷ marks) ∷ codes "</g>" ∷ [])

-- how many characters a press deletes, in the upper right corner
unfoldable pub deletion : ℕ → ℕ → List ℕ
deletion center count =
    if nat_eq count 0 then []
    else concat (codes "<text class='deleted' x='" ∷ decimal (center + 26) ∷ codes "' y='13'>&#8722;" ∷ decimal count ∷ codes "</text>" ∷ [])

-- a bell for a beep, in the lower right corner
unfoldable pub bell : ℕ → ℕ → List ℕ
bell center beeps =
    if nat_eq beeps 0 then []
    else concat (codes "<path class='bell' transform='translate(" ∷ decimal (center + 22) ∷ codes ",54)' d='M-6 4h12l-2-3v-3a4 4 0 0 0-8 0v3z'/>" ∷ [])

-- what a press does, around the center of its key
unfoldable pub glyphs : ℕ → Cell → List ℕ
glyphs center cell = concat (
    deletion center cell.deleted ∷ text_drawing center (text_height (marks cell.items)) (characters cell.items)
    ∷ rings center (ring_height (characters cell.items)) (marks cell.items) ∷ bell center cell.beeps ∷ [])

-- an item in words: a character by its code, a mark by its number
abbrev pub item_words : Item → List ℕ
item_words (Char c) = codes " U+" ++ hexadecimal c
item_words (Mark m) = codes " deadkey " ++ decimal m

-- what a press puts, whole: its text, and its items in words
unfoldable pub description : Cell → List ℕ
description cell = flat_map escaped (characters cell.items) ++ flat_map item_words cell.items
