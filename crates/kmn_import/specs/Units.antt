-- The characters of units, one by one.
use Rattle.std.specs.Prelude.{ℕ, if◌then◌else◌, List, [], ◌∷◌, Option, Some, None}
use Rattle.kmn_import.specs.Utf16.{is_high, is_low, paired}

-- the character of a surrogate pair, given its first unit; None if its second unit does not follow
abbrev pub second_half : ℕ → List ℕ → Option ℕ
second_half high [] = None
second_half high (low ∷ us) = if is_low low then Some (paired high low) else None

-- the first character of units; None if a pair is not complete
abbrev pub first_character : List ℕ → Option ℕ
first_character [] = None
first_character (u ∷ us) = if is_high u then second_half u us else if is_low u then None else Some u

-- the number of units of the character that begins with a unit
abbrev pub unit_count : ℕ → ℕ
unit_count u = if is_high u then 2 else 1
