-- Reading a string up to its zero unit, as a loop does.
use Rattle.std.proofs.Common.{◌≡◌, ℕ, ◌+◌, ◌-◌, ◌*◌, ◌<◌, ◌≤◌, false, List, [], ◌∷◌, ◌++◌, length, take, drop, sym, ap, subst, ◌∙◌, append_assoc, arith}
use Rattle.std.specs.Prelude.{nat_eq, slice_index}
use Rattle.std.proofs.lemmas.Bool.{cond-false}
use Rattle.std.proofs.lemmas.List.{take_all}
use Rattle.kmn_base.specs.Spelling.{unit_bytes, whole_units}
use Rattle.kmn_base.proofs.UnitBytes.{unit_bytes_joined}
use Rattle.kmx_format.specs.TablesOf.{before_zero}

-- the bytes before the rest are units of a string that continues in the rest
pub record Passed (bytes rest : List ℕ) : Type 0 where
  pub front : List ℕ
  pub parts : bytes ≡ front ++ rest
  pub units : unit_bytes (before_zero (whole_units bytes)) ≡ front ++ unit_bytes (before_zero (whole_units rest))

-- another unit was read
pub unit_passed : (bytes : List ℕ) (low high : ℕ) (rest : List ℕ) → low < 256 → nat_eq (low + 256 * high) 0 ≡ false
    → Passed bytes (low ∷ high ∷ rest) → Passed bytes rest
unit_passed bytes low high rest byte some h =
    let unit : unit_bytes (before_zero (whole_units (low ∷ high ∷ rest))) ≡ low ∷ high ∷ unit_bytes (before_zero (whole_units rest))
    = ap unit_bytes (cond-false (nat_eq (low + 256 * high) 0) _ _ some) ∙ unit_bytes_joined low high (before_zero (whole_units rest)) byte in
    record {
      front = h.front ++ low ∷ high ∷ [];
      parts = h.parts ∙ sym (append_assoc h.front (low ∷ high ∷ []) rest);
      units =
          h.units ∙ ap (λ (xs : List ℕ). h.front ++ xs) unit
          ∙ sym (append_assoc h.front (low ∷ high ∷ []) (unit_bytes (before_zero (whole_units rest))));
    }

-- the same, with the unit read from the beginning of the rest
pub front_passed : (bytes rest : List ℕ) (unit : ℕ) → slice_index rest 0 < 256 → 2 ≤ length rest
    → unit ≡ slice_index rest 0 + 256 * slice_index rest 1 → nat_eq unit 0 ≡ false
    → Passed bytes rest → Passed bytes (take (length rest - 2) (drop 2 rest))
front_passed bytes [] unit byte long is some h = absurd (omega arith)
front_passed bytes (low ∷ []) unit byte long is some h = absurd (omega arith)
front_passed bytes (low ∷ high ∷ rest) unit byte long is some h =
    let nonzero : nat_eq (low + 256 * high) 0 ≡ false = ap (λ u. nat_eq u 0) (sym is) ∙ some in
    let size : length (low ∷ high ∷ rest) - 2 ≡ length rest = omega arith in
    let behind : take (length (low ∷ high ∷ rest) - 2) rest ≡ rest = ap (λ n. take n rest) size ∙ take_all (length rest) rest (omega arith) in
    subst (Passed bytes) (sym behind) (unit_passed bytes low high rest byte nonzero h)
