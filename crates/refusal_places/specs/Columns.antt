-- The columns of a line, which count characters.
use Rattle.std.specs.Prelude.{ℕ, ◌+◌, ◌==◌, nat_le, Bool, ◌&&◌, ◌||◌, if◌then◌else◌, List}
use Rattle.std.specs.List.{fold}

-- whether a byte is an LF or a CR, after which a line begins
abbrev pub ends_line : ℕ → Bool
ends_line byte = (byte == 10) || (byte == 13)

-- whether a byte of UTF-8 continues a character
abbrev pub continues : ℕ → Bool
continues byte = nat_le 0x80 byte && nat_le byte 0xBF

-- the column after a byte, given the column before it: each character is one column
abbrev pub column_after : ℕ → ℕ → ℕ
column_after column byte = if ends_line byte then 1 else (if continues byte then column else column + 1)

-- the column behind a text that begins a line; the first column is 1
abbrev pub column_behind : List ℕ → ℕ
column_behind text = fold column_after 1 text
