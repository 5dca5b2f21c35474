-- Counts of items in two lists together.
use Rattle.std.proofs.Common.{◌≡◌, ℕ, ◌+◌, ◌-◌, ◌^◌, min, Bool, cond, List, ◌++◌, ap, sym, ◌∙◌, arith}
use Rattle.std.specs.Prelude.{count_by, nat_lt}
use Rattle.std.proofs.lemmas.Bool.Decides.{nat_tests}
use Rattle.std.proofs.lemmas.List.Sums.{sum_by-append}

pub count_append : {X : Type 0} (p : X → Bool) (xs ys : List X) → count_by p (xs ++ ys) ≡ count_by p xs + count_by p ys
count_append p xs ys = sum_by-append (λ x. cond (p x) 1 0) xs ys

-- a saturating sum is greater than 1 exactly where the sum is
still_more : (sum still : ℕ) → still ≡ min sum (2 ^ 64 - 1) → nat_lt 1 still ≡ nat_lt 1 sum
still_more sum still is = grind (arith, nat_tests)

pub twice_counted : {X : Type 0} (p : X → Bool) (xs ys : List X) (a b still : ℕ) → a ≡ count_by p xs → b ≡ count_by p ys → still ≡ min (a + b) (2 ^ 64 - 1)
    → nat_lt 1 still ≡ nat_lt 1 (count_by p (xs ++ ys))
twice_counted p xs ys a b still is_a is_b is =
    let both : a + b ≡ count_by p (xs ++ ys) = ap (λ n. n + b) is_a ∙ ap (λ n. count_by p xs + n) is_b ∙ sym (count_append p xs ys) in
    still_more (a + b) still is ∙ ap (nat_lt 1) both
