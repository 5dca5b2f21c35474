-- The text that a format hole of two hexadecimal digits writes.
use Rattle.std.proofs.Common.{◌≡◌, ℕ, ◌-◌, ◌^◌, List, ◌++◌, length, replicate, false, append-nil, arith}
use Rattle.std.specs.Prelude.{[]}
use Rattle.std.specs.Fmt.{padded_integral, format_spec, char_count}

-- fewer than two digits are padded with zeros in front to two digits
pub two_digits_padded : (digits : List ℕ) → padded_integral (format_spec 32 0 4 2 (2 ^ 64 - 1)) false [] digits ≡ replicate (2 - length digits) 48 ++ digits
unfolding padded_integral char_count
two_digits_padded digits =
    let none : 2 - length digits - 0 - 0 ≡ 2 - length digits = omega arith in
    rw (append-nil digits, none)
