-- Lists in the order of lines.
use Rattle.std.specs.Prelude.{ℕ, nat_lt, if◌then◌else◌, List, [], ◌∷◌}

-- a list in the order of the lines of its members; those at one line stay in their order
abbrev pub inserted : {X : Type 0} → (X → ℕ) → X → List X → List X
inserted line found [] = found ∷ []
inserted line found (next ∷ others) = if nat_lt (line next) (line found) then next ∷ inserted line found others else found ∷ next ∷ others

abbrev pub in_lines : {X : Type 0} → (X → ℕ) → List X → List X
in_lines line [] = []
in_lines line (found ∷ others) = inserted line found (in_lines line others)
