-- Two sets of codes are joined mark by mark.
use Rattle.std.proofs.Common.{◌≡◌, ℕ, zero, suc, ◌+◌, ◌<◌, ◌≤◌, Bool, false, List, [], ◌∷◌, length, set, get_or, refl, sym, ap, ◌∙◌, arith, add-one}
use Rattle.std.specs.Prelude.{◌||◌}
use Rattle.rule_checker.specs.declared.key_codes.KeyCodes.{KeyCodes}
use Rattle.rule_checker.specs.KeyCodes.{either_marks, joined}

-- marks that are joined from an index on
abbrev pub joined_from : ℕ → List Bool → List Bool → List Bool
joined_from zero marks others = either_marks marks others
joined_from (suc n) [] others = []
joined_from (suc n) (mark ∷ marks) [] = mark ∷ marks
joined_from (suc n) (mark ∷ marks) (other ∷ others) = mark ∷ joined_from n marks others

mark_joined : (n : ℕ) (marks others : List Bool) (both : Bool) → n < length marks → n < length others → both ≡ (get_or marks n false || get_or others n false)
    → joined_from (suc n) (set marks n both) others ≡ joined_from n marks others
mark_joined n [] others both h k e = absurd (omega arith)
mark_joined n (m ∷ marks) [] both h k e = absurd (omega arith)
mark_joined zero (m ∷ marks) (o ∷ others) both h k e = ap (λ b. b ∷ either_marks marks others) e
mark_joined (suc n) (m ∷ marks) (o ∷ others) both h k e = ap (λ ms. m ∷ ms) (mark_joined n marks others both (omega arith) (omega arith) e)

-- joining the mark at an index leaves the marks from the next index on to be joined
pub next_mark : (n : ℕ) (marks others : List Bool) (both : Bool) → n < length marks → n < length others → both ≡ (get_or marks n false || get_or others n false)
    → joined_from (n + 1) (set marks n both) others ≡ joined_from n marks others
next_mark n marks others both h k e = ap (λ m. joined_from m (set marks n both) others) (add-one n) ∙ mark_joined n marks others both h k e

behind_all : (n : ℕ) (marks others : List Bool) → length marks ≤ n → joined_from n marks others ≡ marks
behind_all zero [] others h = refl
behind_all zero (m ∷ marks) others h = absurd (omega arith)
behind_all (suc n) [] others h = refl
behind_all (suc n) (m ∷ marks) [] h = refl
behind_all (suc n) (m ∷ marks) (o ∷ others) h = ap (λ ms. m ∷ ms) (behind_all n marks others (omega arith))

-- after the last mark the sets are joined
pub all_joined : (n : ℕ) (now : List Bool) (codes others : KeyCodes) → length now ≤ n → joined_from n now others.marks ≡ joined_from 0 codes.marks others.marks
    → record { marks = now } ≡ joined codes others
all_joined n now codes others h is =
    let marks : now ≡ either_marks codes.marks others.marks = sym (behind_all n now others.marks h) ∙ is in
    λ j. record { marks = marks j }
