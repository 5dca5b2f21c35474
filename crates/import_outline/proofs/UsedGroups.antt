-- The groups that names reach, step by step.
use Rattle.std.proofs.Common.{◌≡◌, ℕ, zero, suc, ◌-◌, ◌<◌, ◌==◌, true, List, [], ◌∷◌, ◌++◌, length, refl, sym, ◌∙◌, ap, arith, append-nil}
use Rattle.std.proofs.lemmas.Bool.{eqb-true}
use Rattle.import_outline.specs.declared.outline.GroupUse.{GroupUse}
use Rattle.import_outline.specs.Outline.{new_uses, with_used, with_used_times}

-- if no group is added, none is added later
pub used_up : (n : ℕ) (uses : List GroupUse) (names : List (List ℕ)) → new_uses uses names ≡ [] → with_used_times n uses names ≡ names
used_up zero uses names none = refl
used_up (suc n) uses names none =
    let same : with_used uses names ≡ names = ap (λ (more : List (List ℕ)). names ++ more) none ∙ append-nil names in
    ap (with_used_times n uses) same ∙ used_up n uses names none

-- a list without an item
pub no_name : (names : List (List ℕ)) → true ≡ (length names == 0) → names ≡ []
no_name [] e = refl
no_name (name ∷ names) e = let none : length (name ∷ names) ≡ 0 = eqb-true (length (name ∷ names)) 0 (sym e) in absurd (omega arith)

-- a step
pub used_more : (left : ℕ) (uses : List GroupUse) (names : List (List ℕ)) → 0 < left → with_used_times left uses names ≡ with_used_times (left - 1) uses (names ++ new_uses uses names)
used_more zero uses names some = absurd (omega arith)
used_more (suc n) uses names some = let e : n ≡ suc n - 1 = omega arith in ap (λ (k : ℕ). with_used_times k uses (with_used uses names)) e
