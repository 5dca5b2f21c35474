-- Numbers written in words in some base.
use Rattle.std.specs.Prelude.{ℕ, ◌+◌, ◌*◌, min, Bool, List, fold}
use Rattle.std.specs.List.{list_all}
use Rattle.std.specs.Char.{digit_value, is_digit}

-- whether all bytes are digits of a base
abbrev pub are_digits : ℕ → List ℕ → Bool
are_digits base text = list_all (λ b. is_digit b base) text

-- a number with another digit appended, or a bound if the number is larger
abbrev pub with_digit : ℕ → ℕ → ℕ → ℕ → ℕ
with_digit bound base value digit = min (base * value + digit_value digit) bound

-- the number that digits denote, or a bound if the number is larger
abbrev pub bounded_value : ℕ → ℕ → List ℕ → ℕ
bounded_value bound base digits = fold (with_digit bound base) 0 digits
