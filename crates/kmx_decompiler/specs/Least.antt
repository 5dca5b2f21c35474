-- The least of several places, computed one place after the other.
use Rattle.std.specs.Prelude.{ℕ, min, List, [], ◌∷◌, Option, Some, None}

-- the lesser of the least place so far, if any, and another place
abbrev pub lesser_of : Option ℕ → ℕ → ℕ
lesser_of None place = place
lesser_of (Some found) place = min found place

-- the least of places and of the least place so far, if any
abbrev pub lesser : List ℕ → Option ℕ → Option ℕ
lesser [] found = found
lesser (place ∷ places) found = lesser places (Some (lesser_of found place))
