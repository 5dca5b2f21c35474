-- Written lines: tokens, with a blank between some of them.
use Rattle.std.specs.Prelude.{ℕ, List, [], ◌∷◌, ◌++◌, map, Option, Some, None}
use Rattle.kmn_items.specs.TokenTexts.{LineToken}

-- the text of a piece: of a token, or a blank
abbrev pub piece_text : Option LineToken → List ℕ
piece_text None = 32 ∷ []
piece_text (Some token) = token.text

-- the text of a line
abbrev pub printed : List (Option LineToken) → List ℕ
printed [] = []
printed (p ∷ ps) = piece_text p ++ printed ps

-- lines of text, each followed by LF
abbrev pub rows : List (List ℕ) → List ℕ
rows [] = []
rows (line ∷ lines) = line ++ 10 ∷ rows lines

-- the text of lines
abbrev pub sheet : List (List (Option LineToken)) → List ℕ
sheet lines = rows (map printed lines)
