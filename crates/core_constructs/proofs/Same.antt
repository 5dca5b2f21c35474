-- Outputs of different lengths are not the same.
use Rattle.std.proofs.Common.{◌≡◌, ◌≢◌, suc, Bool, true, false, ◌&&◌, List, [], ◌∷◌, length, refl, ap, ◌∙◌}
use Rattle.rule_model.specs.declared.tables.Out.{Out}
use Rattle.core_constructs.specs.Empty.{same_item, same_outputs}

and_false : (b : Bool) → (b && false) ≡ false
and_false true = refl
and_false false = refl

pub different_lengths : (xs ys : List Out) → length xs ≢ length ys → same_outputs xs ys ≡ false
different_lengths [] [] apart = absurd (apart refl)
different_lengths [] (y ∷ ys) apart = refl
different_lengths (x ∷ xs) [] apart = refl
different_lengths (x ∷ xs) (y ∷ ys) apart =
    ap (λ rest. same_item x y && rest) (different_lengths xs ys (λ same. apart (ap suc same))) ∙ and_false (same_item x y)
