-- Sets of codes of the key table.
use Rattle.std.specs.Prelude.{ℕ, Bool, true, false, ◌&&◌, ◌||◌, if◌then◌else◌, nat_lt, List, [], ◌∷◌, replicate, slice_get, slice_set, unwrap_or}
use Rattle.rule_checker.specs.declared.key_codes.KeyCodes.{KeyCodes}
use Rattle.virtual_keys.specs.declared.dictionary.TheConstants.{FIRST_OWN_CODE}

-- whether a code is in the key table; the code of a custom key is not
abbrev pub is_table_code : ℕ → Bool
is_table_code code = nat_lt 0 code && nat_lt code FIRST_OWN_CODE

-- whether a code is in a set
abbrev pub has_mark : List Bool → ℕ → Bool
has_mark marks code = unwrap_or (slice_get marks code) false

abbrev pub has_code : KeyCodes → ℕ → Bool
has_code codes code = has_mark codes.marks code

-- the empty set
unfoldable pub no_codes : KeyCodes
no_codes = record { marks = replicate FIRST_OWN_CODE false }

-- a set with a further code, if the code is in the key table
abbrev pub with_code : KeyCodes → ℕ → KeyCodes
with_code codes code = record { marks = if is_table_code code then slice_set codes.marks code true else codes.marks }

-- the union of two sets that have equally many marks
abbrev pub either_marks : List Bool → List Bool → List Bool
either_marks [] others = []
either_marks (mark ∷ marks) [] = mark ∷ marks
either_marks (mark ∷ marks) (other ∷ others) = (mark || other) ∷ either_marks marks others

abbrev pub joined : KeyCodes → KeyCodes → KeyCodes
joined codes others = record { marks = either_marks codes.marks others.marks }
