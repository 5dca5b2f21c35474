-- The distances that have no mark.
use Rattle.std.proofs.Common.{◌≡◌, ◌≢◌, ℕ, ◌<◌, ◌≤◌, ◌^◌, false, ◌&&◌, Some, nat_eq, ap, ◌∙◌, inl, inr}
use Rattle.std.proofs.lemmas.Bool.{cases_Bool, eqb-true}
use Rattle.std.proofs.lemmas.Nat.Bits.{bit_at_above, bit_at-zero}
use Rattle.std.proofs.Math.Bool.{and-false}
use Rattle.rule_matching.specs.declared.store_marks.Marks.{Marks}
use Rattle.rule_matching.specs.StoreMarks.{has_distance, is_marked_by}

-- a word of 64 bits has no bit at a distance of 64 or more
pub has_no_bit : (distances distance : ℕ) → distances < 2 ^ 64 → 64 ≤ distance → has_distance distances distance ≡ false
has_no_bit distances distance fits far = ap (λ b. nat_eq b 1) (bit_at_above distances 64 distance fits far)

-- no bit is set in 0
no_distance : (distance : ℕ) → has_distance 0 distance ≡ false
no_distance distance = ap (λ b. nat_eq b 1) (bit_at-zero distance)

-- if a store has no marks, it is not marked at any distance
pub no_marks : (choice distance : ℕ) (marks : Marks) → marks.distances ≡ 0 → is_marked_by choice (Some marks) distance ≡ false
no_marks choice distance marks none =
    ap (λ b. nat_eq marks.choice choice && b) (ap (λ w. has_distance w distance) none ∙ no_distance distance) ∙ and-false (nat_eq marks.choice choice)

-- if the marks of a store belong to another choice, it is not marked at any distance
pub other_choice : (choice distance : ℕ) (marks : Marks) → marks.choice ≢ choice → is_marked_by choice (Some marks) distance ≡ false
other_choice choice distance marks other = elim (cases_Bool (nat_eq marks.choice choice)) [
  | inl same ↦ absurd (other (eqb-true marks.choice choice same))
  | inr differs ↦ ap (λ b. b && has_distance marks.distances distance) differs
]
