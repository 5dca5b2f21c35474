-- Words of different lengths are not the same.
use Rattle.std.proofs.Common.{◌≡◌, ◌≢◌, suc, false, ◌&&◌, List, [], ◌∷◌, length, refl, sym, ap, ◌∙◌}
use Rattle.std.proofs.Math.Bool.{and-false}
use Rattle.kmn_base.specs.declared.items.Element.{Element}
use Rattle.rule_model.specs.System.{same_without_case, same_word}

pub not_same_length : (word other : List Element) → length word ≢ length other → false ≡ same_word word other
not_same_length [] [] differ = absurd (differ refl)
not_same_length [] (b ∷ others) differ = refl
not_same_length (a ∷ rest) [] differ = refl
not_same_length (a ∷ rest) (b ∷ others) differ =
    sym (and-false (same_without_case a b)) ∙ ap (λ same. same_without_case a b && same) (not_same_length rest others (λ same. differ (ap suc same)))
