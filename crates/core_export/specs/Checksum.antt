-- The checksum of bytes: a cyclic redundancy check of 32 bits, lowest bit first. It begins with all bits set and isn't inverted
-- at the end.
use Rattle.std.specs.Prelude.{ℕ, zero, suc, ◌/◌, ◌%◌, nat_eq, bit_xor, if◌then◌else◌, List, [], ◌∷◌}

-- the sum after one more bit: the lowest bit is removed, and if it is 1, the polynomial is added
abbrev pub bit_behind : ℕ → ℕ
bit_behind sum = if nat_eq (sum % 2) 1 then bit_xor (sum / 2) 0xEDB8_8320 else sum / 2

-- the sum after a number of bits
abbrev pub bits_behind : ℕ → ℕ → ℕ
bits_behind zero sum = sum
bits_behind (suc count) sum = bits_behind count (bit_behind sum)

-- the sum after one more byte
abbrev pub byte_behind : ℕ → ℕ → ℕ
byte_behind sum byte = bits_behind 8 (bit_xor sum byte)

-- the sum after all bytes of a list
abbrev pub bytes_behind : ℕ → List ℕ → ℕ
bytes_behind sum [] = sum
bytes_behind sum (byte ∷ bytes) = bytes_behind (byte_behind sum byte) bytes

-- the checksum of bytes
unfoldable pub checksum : List ℕ → ℕ
checksum bytes = bytes_behind 0xFFFF_FFFF bytes
