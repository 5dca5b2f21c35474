-- Words that differ in one letter. A letter is a byte here.
use Rattle.std.specs.Prelude.{ℕ, ◌==◌, Bool, ◌&&◌, ◌||◌, if◌then◌else◌, List, [], ◌∷◌, length, take, drop}
use Rattle.std.specs.Char.{eq_ignore_ascii_case}
use Rattle.kmn_base.specs.Names.{same_name}

-- whether two letters are equal without ASCII case
unfoldable pub same_letter : ℕ → ℕ → Bool
same_letter = eq_ignore_ascii_case

-- whether two words are equal if the first two letters of one of them are exchanged
unfoldable pub is_exchanged : List ℕ → List ℕ → Bool
is_exchanged left right =
    same_name (take 1 left) (take 1 (drop 1 right)) && same_name (take 1 (drop 1 left)) (take 1 right)
    && same_name (drop 2 left) (drop 2 right)

-- whether two words are equal if the first letter of one of them is replaced by that of the other, if the first letter of one of them is
-- left out, or if the first two letters are exchanged
unfoldable pub is_changed : List ℕ → List ℕ → Bool
is_changed left right =
    same_name (drop 1 left) (drop 1 right) || same_name (drop 1 left) right || same_name left (drop 1 right) || is_exchanged left right

-- whether two words differ in one letter: after equal letters they are equal with one change
abbrev pub is_near : List ℕ → List ℕ → Bool
is_near [] right = length right == 1
is_near (first ∷ rest) [] = length rest == 0
is_near (first ∷ rest) (next ∷ others) =
    if same_letter first next then is_near rest others else is_changed (first ∷ rest) (next ∷ others)
