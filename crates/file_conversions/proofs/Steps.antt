-- Records one after the other, as a loop visits them.
use Rattle.std.proofs.Common.{◌≡◌, ◌≢◌, ℕ, suc, ◌+◌, ◌*◌, ◌-◌, ◌<◌, true, not, nat_eq, ne_eqb, sym, ◌∙◌, ap, arith}

-- if a recursion has one result from a record on and from the next record on, the loop keeps this result as it passes the record
pub one_more : {X : Type 0} → (size : ℕ) (before after : ℕ → ℕ → X) (place count i : ℕ) (answer : X) → i < count
    → ((rest : ℕ) → before (place + size * i) (suc rest) ≡ after (place + size * i + size) rest)
    → before (place + size * i) (count - i) ≡ answer → after (place + size * (i + 1)) (count - (i + 1)) ≡ answer
one_more size before after place count i answer below steps so_far =
    let next : count - i ≡ suc (count - (i + 1)) = omega arith in
    let behind : place + size * i + size ≡ place + size * (i + 1) = omega arith in
    sym (ap (before (place + size * i)) next ∙ steps (count - (i + 1)) ∙ ap (λ p. after p (count - (i + 1))) behind) ∙ so_far

-- if a number isn't 0, it passes the test
pub some : (n m : ℕ) → n ≡ m → n ≢ 0 → not (nat_eq m 0) ≡ true
some n m is nonzero = ap not (ap (λ k. nat_eq k 0) (sym is) ∙ ne_eqb n 0 nonzero)
