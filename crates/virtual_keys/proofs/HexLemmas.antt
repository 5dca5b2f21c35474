-- A few hexadecimal digits denote a small number.
use Rattle.std.proofs.Common.{ℕ, ◌^◌, ◌<◌, ◌≤◌, arith, lit<}
use Rattle.std.proofs.Math.Nat.{pow-le-pow_right}

-- a number of at most five digits
pub few_digits : (value count : ℕ) → value < 16 ^ count → count < 6 → value < 2 ^ 20
few_digits value count below few =
    let most : 16 ^ count ≤ 16 ^ 5 = pow-le-pow_right {n = 16} (lit< tt) {i = count} {j = 5} (omega arith) in
    omega arith
