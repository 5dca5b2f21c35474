-- A set of numbers with a number inserted.
use Rattle.std.proofs.Common.{◌≡◌, ℕ, Bool, true, false, List, [], ◌∷◌, ◌++◌, sym, ap, ◌∙◌, if◌then◌else◌, arith, refl}
use Rattle.std.specs.Prelude.{◌||◌, nat_eq}
use Rattle.std.specs.List.{list_any}
use Rattle.std.proofs.Math.Bool.{or-false}
use Rattle.std.proofs.lemmas.Bool.Decides.{nat_tests}
use Rattle.std.proofs.lemmas.List.Folds.{list_any-append}
use Rattle.indexmap.specs.IndexSet.{insert_key}

same_number : (q n : ℕ) → nat_eq q n ≡ true → q ≡ n
same_number q n e = grind (arith, nat_tests)

-- a number that is already in the set
known_twice : (set : List ℕ) (n q : ℕ) (same : Bool) → nat_eq q n ≡ same → list_any (nat_eq n) set ≡ true → list_any (nat_eq q) set ≡ (list_any (nat_eq q) set || same)
known_twice set n q true e there =
    let found : list_any (nat_eq q) set ≡ true = ap (λ k. list_any (nat_eq k) set) (same_number q n e) ∙ there in
    found ∙ sym (ap (λ b. b || true) found)
known_twice set n q false e there = sym (or-false (list_any (nat_eq q) set))

inserted_as : (set : List ℕ) (n q : ℕ) (there : Bool) → list_any (nat_eq n) set ≡ there
    → list_any (nat_eq q) (if there then set else set ++ n ∷ []) ≡ (list_any (nat_eq q) set || nat_eq q n)
inserted_as set n q true e = known_twice set n q (nat_eq q n) refl e
inserted_as set n q false e = list_any-append (nat_eq q) set (n ∷ []) ∙ ap (λ b. list_any (nat_eq q) set || b) (or-false (nat_eq q n))

-- membership after an insertion
pub inserted : (set : List ℕ) (n q : ℕ) → list_any (nat_eq q) (insert_key nat_eq set n) ≡ (list_any (nat_eq q) set || nat_eq q n)
inserted set n q = inserted_as set n q (list_any (nat_eq n) set) refl
