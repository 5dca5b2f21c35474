-- Items that save an option, in two lists of which one comes after the other.
use Rattle.std.proofs.Common.{◌≡◌, ℕ, Bool, true, false, ◌||◌, List, [], ◌∷◌, ◌++◌, refl, ap, sym, ◌∙◌}
use Rattle.std.specs.List.{list_any}
use Rattle.rule_model.specs.declared.tables.Out.{Out}
use Rattle.core_constructs.specs.Changes.{is_saved_early, saves_early, saves_before}

or-assoc : (a b c : Bool) → (a || b) || c ≡ a || (b || c)
or-assoc true b c = refl
or-assoc false b c = refl

pub append_none : {A : Type 0} (xs : List A) → xs ++ [] ≡ xs
append_none [] = refl
append_none (x ∷ xs) = ap (λ list. x ∷ list) (append_none xs)

pub any_in_both : (test : Out → Bool) (xs ys : List Out) → list_any test (xs ++ ys) ≡ (list_any test xs || list_any test ys)
any_in_both test [] ys = refl
any_in_both test (x ∷ xs) ys = ap (λ b. test x || b) (any_in_both test xs ys) ∙ sym (or-assoc (test x) (list_any test xs) (list_any test ys))

saves_alone : (groups : List (List ℕ)) (ys : List Out) → saves_early groups ys ≡ saves_before groups ys []
saves_alone groups [] = refl
saves_alone groups (y ∷ ys) =
    ap (λ items. is_saved_early groups y items || saves_early groups ys) (sym (append_none ys)) ∙ ap (λ b. is_saved_early groups y (ys ++ []) || b) (saves_alone groups ys)

saves_with : (groups : List (List ℕ)) (xs ys : List Out) → saves_early groups (xs ++ ys) ≡ (saves_before groups xs ys || saves_early groups ys)
saves_with groups [] ys = refl
saves_with groups (x ∷ xs) ys =
    ap (λ b. is_saved_early groups x (xs ++ ys) || b) (saves_with groups xs ys) ∙ sym (or-assoc (is_saved_early groups x (xs ++ ys)) (saves_before groups xs ys) (saves_early groups ys))

pub saves_in_both : (groups : List (List ℕ)) (xs ys : List Out) → saves_early groups (xs ++ ys) ≡ (saves_before groups xs ys || saves_before groups ys [])
saves_in_both groups xs ys = saves_with groups xs ys ∙ ap (λ b. saves_before groups xs ys || b) (saves_alone groups ys)
