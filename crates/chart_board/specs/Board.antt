-- The keys of a chart and their places, in units of the drawing.
use Rattle.std.specs.Prelude.{ℕ, ◌+◌, ◌*◌, ◌/◌, ◌%◌, List, [], ◌∷◌, ◌++◌, map, codes}
use Rattle.virtual_keys.specs.declared.dictionary.TheConstants.{FIRST_OWN_CODE}
use Rattle.chart_board.specs.declared.board.Key.{Key}

-- the keys of a US board, row by row, and the key next to the left shift key that other boards have: the key cap of each key, its code, its
-- distance from the left and from the top, and its width
unfoldable pub board_rows : List (List ℕ × ℕ × ℕ × ℕ × ℕ)
board_rows =
    (codes "`", 192, 0, 0, 60) ∷ (codes "1", 49, 64, 0, 60) ∷ (codes "2", 50, 128, 0, 60) ∷ (codes "3", 51, 192, 0, 60) ∷
    (codes "4", 52, 256, 0, 60) ∷ (codes "5", 53, 320, 0, 60) ∷ (codes "6", 54, 384, 0, 60) ∷ (codes "7", 55, 448, 0, 60) ∷
    (codes "8", 56, 512, 0, 60) ∷ (codes "9", 57, 576, 0, 60) ∷ (codes "0", 48, 640, 0, 60) ∷ (codes "-", 189, 704, 0, 60) ∷
    (codes "=", 187, 768, 0, 60) ∷ (codes "Bksp", 8, 832, 0, 124) ∷ (codes "Tab", 9, 0, 64, 92) ∷ (codes "Q", 81, 96, 64, 60) ∷
    (codes "W", 87, 160, 64, 60) ∷ (codes "E", 69, 224, 64, 60) ∷ (codes "R", 82, 288, 64, 60) ∷ (codes "T", 84, 352, 64, 60) ∷
    (codes "Y", 89, 416, 64, 60) ∷ (codes "U", 85, 480, 64, 60) ∷ (codes "I", 73, 544, 64, 60) ∷ (codes "O", 79, 608, 64, 60) ∷
    (codes "P", 80, 672, 64, 60) ∷ (codes "[", 219, 736, 64, 60) ∷ (codes "]", 221, 800, 64, 60) ∷ (codes "\\", 220, 864, 64, 92) ∷
    (codes "A", 65, 112, 128, 60) ∷ (codes "S", 83, 176, 128, 60) ∷ (codes "D", 68, 240, 128, 60) ∷ (codes "F", 70, 304, 128, 60) ∷
    (codes "G", 71, 368, 128, 60) ∷ (codes "H", 72, 432, 128, 60) ∷ (codes "J", 74, 496, 128, 60) ∷ (codes "K", 75, 560, 128, 60) ∷
    (codes "L", 76, 624, 128, 60) ∷ (codes ";", 186, 688, 128, 60) ∷ (codes "'", 222, 752, 128, 60) ∷
    (codes "Enter", 13, 816, 128, 140) ∷ (codes "<", 226, 80, 192, 60) ∷ (codes "Z", 90, 144, 192, 60) ∷ (codes "X", 88, 208, 192, 60) ∷
    (codes "C", 67, 272, 192, 60) ∷ (codes "V", 86, 336, 192, 60) ∷ (codes "B", 66, 400, 192, 60) ∷ (codes "N", 78, 464, 192, 60) ∷
    (codes "M", 77, 528, 192, 60) ∷ (codes ",", 188, 592, 192, 60) ∷ (codes ".", 190, 656, 192, 60) ∷ (codes "/", 191, 720, 192, 60) ∷
    (codes " ", 32, 256, 256, 380) ∷ []

-- a key of the board, from its row
abbrev pub board_key : List ℕ × ℕ × ℕ × ℕ × ℕ → Key
board_key row = record { cap = row.0; code = row.1; left = row.2; top = row.3; width = row.4 }

-- a key of the file's own, from its place among the names of the key dictionary: 15 of them are in a row below the board
abbrev pub own_key : ℕ → List ℕ → Key
own_key number name =
    record { cap = name; code = FIRST_OWN_CODE + number; left = 64 * (number % 15); top = 320 + 64 * (number / 15); width = 60 }

-- the keys of these names, the first of which has this place
abbrev pub own_keys : ℕ → List (List ℕ) → List Key
own_keys number [] = []
own_keys number (name ∷ names) = own_key number name ∷ own_keys (number + 1) names

-- the keys of a chart: those of the board, and those of the file's key dictionary
unfoldable pub chart_keys : List (List ℕ) → List Key
chart_keys names = map board_key board_rows ++ own_keys 0 names
