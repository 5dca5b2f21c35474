-- Names that compare without ASCII case, the names that represent characters, and the dictionary of a keyboard's custom keys.
use Rattle.std.specs.Prelude.{◌≡◌, ℕ, false, ◌+◌, ◌-◌, ◌*◌, Bool, ◌&&◌, not, nat_eq, nat_lt, nat_le, if◌then◌else◌, List, [], ◌∷◌, ◌++◌, length, take, drop, codes, fold, map, position, Option, Some, None, is_some, unwrap_or, option_map, slice_get}
use Rattle.std.specs.List.{AllPairs, list_all, slice_split}
use Rattle.std.specs.Str.{byte}
use lib.Utf8.{scalar}
use Rattle.kmn_base.specs.declared.limits.TheConstants.{SOURCE_NAME_CHARS}
use Rattle.kmn_base.specs.Bytes.{hex_digit}
use Rattle.kmn_base.specs.Names.{same_name}
use Rattle.kmn_base.specs.Spelling.{is_forbidden}
use Rattle.virtual_keys.specs.declared.dictionary.TheConstants.{FIRST_OWN_CODE}

-- whether a byte is a hexadecimal digit
abbrev pub is_hex_digit : ℕ → Bool
is_hex_digit byte = is_some (hex_digit byte)

-- the number that hexadecimal digits denote
abbrev pub hex_value : List ℕ → ℕ
hex_value digits = fold (λ value digit. 16 * value + unwrap_or (hex_digit digit) 0) 0 digits

-- a Unicode scalar value that is a character of a keyboard
abbrev pub is_nameable : ℕ → Bool
is_nameable c = scalar c && not (is_forbidden c)

-- whether a group of bytes is 4 to 6 hexadecimal digits of a character that a name may have
abbrev pub is_group : List ℕ → Bool
is_group group = nat_le 4 (length group) && nat_le (length group) 6 && list_all is_hex_digit group && is_nameable (hex_value group)

-- whether a byte is _, which separates groups
abbrev pub is_parting : ℕ → Bool
is_parting b = nat_eq b (byte "_")

-- the groups of a text, which _ separates
abbrev pub groups : List ℕ → List (List ℕ)
groups text = slice_split is_parting text

-- the characters of groups, each as its digits denote it; None if a group is not valid
abbrev pub group_chars : List (List ℕ) → Option (List ℕ)
group_chars parts = if list_all is_group parts then Some (map hex_value parts) else None

-- the characters of a name of at most 80 characters that consists of U_ and groups of 4 to 6 hexadecimal digits separated by _; None for
-- any other name
unfoldable pub name_chars : List ℕ → Option (List ℕ)
name_chars name = if nat_le (length name) SOURCE_NAME_CHARS && same_name (take 2 name) (codes "U_") then group_chars (groups (drop 2 name)) else None

-- no name of a list is the same as an earlier one
abbrev pub AreDistinct : List (List ℕ) → Type 0
AreDistinct names = AllPairs (λ earlier later. same_name later earlier ≡ false) names

-- the index of a name in a list of names
abbrev pub place_in : List (List ℕ) → List ℕ → Option ℕ
place_in names name = position (same_name name) names

-- the code of a name in a list of names: the first has 256
unfoldable pub code_in : List (List ℕ) → List ℕ → Option ℕ
code_in names name = option_map (λ place. FIRST_OWN_CODE + place) (place_in names name)

-- the name of a code in a list of names
abbrev pub name_in : List (List ℕ) → ℕ → Option (List ℕ)
name_in names code = if nat_lt code FIRST_OWN_CODE then None else slice_get names (code - FIRST_OWN_CODE)

-- the list with a name, which is appended if no name of the list is the same
abbrev pub with_name : List (List ℕ) → List ℕ → List (List ℕ)
with_name names name = if is_some (place_in names name) then names else names ++ name ∷ []
