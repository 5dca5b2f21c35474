-- The output of a format placeholder for four hexadecimal digits.
use Rattle.std.proofs.Common.{◌≡◌, ℕ, ◌-◌, ◌^◌, List, ◌++◌, length, replicate, false, append-nil, arith}
use Rattle.std.specs.Prelude.{[]}
use Rattle.std.specs.Fmt.{padded_integral, format_spec, char_count}

-- if there are fewer than four digits, zeros precede them up to four
pub padded_hexadecimal : (digits : List ℕ) → padded_integral (format_spec 32 0 4 4 (2 ^ 64 - 1)) false [] digits ≡ replicate (4 - length digits) 48 ++ digits
unfolding padded_integral char_count
padded_hexadecimal digits =
    let none : 4 - length digits - 0 - 0 ≡ 4 - length digits = omega arith in
    rw (append-nil digits, none)
