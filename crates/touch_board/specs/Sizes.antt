-- The sizes of the keys of a touch layout, in units of a drawing.
use Rattle.std.specs.Prelude.{ℕ, ◌*◌, ◌/◌, min, Bool, nat_eq, if◌then◌else◌, List, codes, Option, Some, None}
use Rattle.std.specs.Option.{option_map_or}
use Rattle.kmn_base.specs.Digits.{are_digits, bounded_value}
use Rattle.serde_json.specs.Data.{Data, null, boolean, number, string, array, object}
use Rattle.serde_json.specs.Find.{get, as_u64}
use Rattle.touch_board.specs.declared.sizes.TheConstants.{MOST_UNITS, WIDEST}

-- the number that digits denote, at most `MOST_UNITS`; 0 for another text
abbrev pub whole_text : List ℕ → ℕ
whole_text s = if are_digits 10 s then bounded_value MOST_UNITS 10 s else 0

-- the whole number that a value is, or the number that its digits denote, at most `MOST_UNITS`; 0 for any other value
abbrev pub whole : Data → ℕ
whole null = 0
whole (boolean b) = 0
whole (number n) = option_map_or (λ units. min units MOST_UNITS) (as_u64 n) 0
whole (string s) = whole_text s
whole (array ds) = 0
whole (object ms) = 0

-- the number of an optional member, 0 if it is absent
abbrev pub whole_at : Option Data → ℕ
whole_at None = 0
whole_at (Some d) = whole d

-- a number of a layout, or its default in place of 0
abbrev pub unless_zero : ℕ → ℕ → ℕ
unless_zero default n = if nat_eq n 0 then default else n

-- a number of units of a layout in units of the drawing: a key of 100 is 60 wide, and none is wider than `WIDEST`
abbrev pub drawn : ℕ → ℕ
drawn units = min (units * 3 / 5) WIDEST

-- the size in a member, or the default if it is absent, 0, or no whole number
abbrev pub size_in : ℕ → List ℕ → Data → ℕ
size_in default name d = drawn (unless_zero default (whole_at (get name d)))

-- whether a key is only a space: its `sp` is 10
abbrev pub is_spacer : Data → Bool
is_spacer d = nat_eq (whole_at (get (codes "sp") d)) 10
