-- A source in UTF-16, and its text in UTF-8.
use Rattle.std.specs.Prelude.{ℕ, ◌+◌, ◌-◌, ◌*◌, Bool, true, false, ◌&&◌, nat_eq, nat_le, nat_lt, if◌then◌else◌, List, [], ◌∷◌, drop, Option, Some, None, option_map, option_and_then, encode_utf8_all}

-- the unit of two bytes, with the high byte first or last
abbrev pub unit : Bool → ℕ → ℕ → ℕ
unit big_endian a b = if big_endian then a * 256 + b else b * 256 + a

-- the units of bytes; None if one byte is left over
abbrev pub units : Bool → List ℕ → Option (List ℕ)
units big_endian [] = Some []
units big_endian (a ∷ []) = None
units big_endian (a ∷ b ∷ bytes) = option_map (λ (more : List ℕ). unit big_endian a b ∷ more) (units big_endian bytes)

-- whether a unit is the first one of a surrogate pair
abbrev pub is_high : ℕ → Bool
is_high u = nat_le 0xD800 u && nat_lt u 0xDC00

-- whether a unit is the second one of a surrogate pair
abbrev pub is_low : ℕ → Bool
is_low u = nat_le 0xDC00 u && nat_lt u 0xE000

-- the character of a surrogate pair
abbrev pub paired : ℕ → ℕ → ℕ
paired high low = 0x1_0000 + (high - 0xD800) * 1024 + (low - 0xDC00)

-- the characters of units, after the first unit of a pair or not; None if a pair is not complete
abbrev pub unit_characters : Option ℕ → List ℕ → Option (List ℕ)
unit_characters None [] = Some []
unit_characters (Some high) [] = None
unit_characters None (u ∷ us) =
    if is_high u then unit_characters (Some u) us
    else if is_low u then None
    else option_map (λ (more : List ℕ). u ∷ more) (unit_characters None us)
unit_characters (Some high) (u ∷ us) = if is_low u then option_map (λ (more : List ℕ). paired high u ∷ more) (unit_characters None us) else None

-- the text of bytes in UTF-16, in UTF-8
abbrev pub wide_text : Bool → List ℕ → Option (List ℕ)
wide_text big_endian bytes = option_map encode_utf8_all (option_and_then (unit_characters None) (units big_endian bytes))

-- whether bytes begin with these two
abbrev pub begin_with : ℕ → ℕ → List ℕ → Bool
begin_with a b (x ∷ y ∷ bytes) = nat_eq a x && nat_eq b y
begin_with a b bytes = false

-- the text of a source that begins with a byte order mark of UTF-16; None for any other source
abbrev pub marked_text : List ℕ → Option (List ℕ)
marked_text bytes =
    if begin_with 0xFF 0xFE bytes then wide_text false (drop 2 bytes)
    else if begin_with 0xFE 0xFF bytes then wide_text true (drop 2 bytes)
    else None
