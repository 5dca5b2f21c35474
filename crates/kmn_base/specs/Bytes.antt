-- The kinds of bytes in sources and scripts.
use Rattle.std.specs.Prelude.{ℕ, ◌-◌, ◌==◌, nat_le, Bool, ◌&&◌, ◌||◌, if◌then◌else◌, Option, None, Some}

-- whether a byte is a blank: a space or a tab
abbrev pub is_blank : ℕ → Bool
is_blank byte = (byte == 32) || (byte == 9)

-- whether a byte is a quote: " or '
abbrev pub is_quote : ℕ → Bool
is_quote byte = (byte == 34) || (byte == 39)

-- the value of a hexadecimal digit
abbrev pub hex_digit : ℕ → Option ℕ
hex_digit byte =
    if nat_le 48 byte && nat_le byte 57 then Some (byte - 48)
    else if nat_le 65 byte && nat_le byte 70 then Some (byte - 55)
    else if nat_le 97 byte && nat_le byte 102 then Some (byte - 87)
    else None
