-- The sizes of the strings of a file, in bytes.
use Rattle.std.specs.Prelude.{ℕ, ◌+◌, ◌*◌, nat_eq, if◌then◌else◌}

-- the number of bytes of a string by its number of units: two for each unit and two for the zero unit; 0 if it is empty
abbrev pub string_size : ℕ → ℕ
string_size units = if nat_eq units 0 then 0 else 2 * units + 2
