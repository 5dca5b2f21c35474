-- Characters as XML has them. All of the text is ASCII.
use Rattle.std.specs.Prelude.{ℕ, ◌+◌, ◌-◌, Bool, ◌&&◌, ◌||◌, not, nat_eq, nat_le, if◌then◌else◌, List, [], ◌∷◌, ◌++◌, length, take, flat_map, codes, encode_utf8}
use Rattle.std.specs.List.{concat, list_any}
use Rattle.std.specs.Fmt.{decimal}

-- whether a character is part of the markup of XML: " & ' < and >
abbrev pub is_markup : ℕ → Bool
is_markup c = nat_eq c 34 || nat_eq c 38 || nat_eq c 39 || nat_eq c 60 || nat_eq c 62

-- whether a character of ASCII is written as it is
abbrev pub is_plain : ℕ → Bool
is_plain c = nat_le 32 c && nat_le c 126 && not (is_markup c)

-- whether XML allows a character: a tab, a line feed, a carriage return, and all from U+0020 on but U+FFFE and U+FFFF
abbrev pub is_allowed : ℕ → Bool
is_allowed c = nat_eq c 9 || nat_eq c 10 || nat_eq c 13 || (nat_le 32 c && not (nat_eq c 65534) && not (nat_eq c 65535))

-- a reference to a character
abbrev pub reference : ℕ → List ℕ
reference c = concat (codes "&#" ∷ decimal c ∷ codes ";" ∷ [])

-- a character as it is written in XML: as it is, or as a reference; U+FFFD replaces one that XML forbids
unfoldable pub escaped : ℕ → List ℕ
escaped c = if is_plain c then encode_utf8 c else if is_allowed c then reference c else codes "&#65533;"

-- a character as a key shows it: a space as an open box
unfoldable pub shown : ℕ → List ℕ
shown c = if nat_eq c 32 then codes "&#9251;" else escaped c

-- characters as a key shows them; of more than a limit all before the last place, and an ellipsis in that place
unfoldable pub cut : ℕ → List ℕ → List ℕ
cut limit chars = if nat_le (length chars) limit then flat_map shown chars else (flat_map shown (take (limit - 1) chars) ++ codes "&#8230;")

-- whether a character is in one of the ranges of a table
abbrev pub is_in : List (ℕ × ℕ) → ℕ → Bool
is_in ranges c = list_any (λ range. nat_le range.0 c && nat_le c range.1) ranges
