-- What is found by a depth of groups: at depth 0, at one more, and at all depths from one on that adds nothing.
use Rattle.std.proofs.Common.{◌≡◌, ℕ, zero, suc, ◌+◌, ◌-◌, ◌≤◌, List, [], ◌∷◌, length, map, refl, sym, ap, ◌∙◌, add-one, arith}
use Rattle.std.specs.Prelude.{replicate}
use Rattle.kmn_base.specs.Rising.{rising}
use Rattle.rule_model.specs.declared.tables.Group.{Group}
use Rattle.core_constructs.specs.Reached.{reached_within, with_entered}
use Rattle.core_constructs.specs.Changes.{changes_within, group_changes}
use Rattle.core_constructs.specs.Spent.{spent_within, after_groups}
use Rattle.core_constructs.specs.Queued.{effects_within, chain_effects}
use Rattle.core_constructs.specs.declared.facts.Facts.{Facts}

-- what one more depth leaves as it is stands at each greater depth
settled : {A : Type 0} (at : ℕ → A) (step : A → A) → ((n : ℕ) → at (n + 1) ≡ step (at n)) → (n : ℕ) → at n ≡ step (at n) → (more : ℕ) → at (n + more) ≡ at n
settled at step steps n same zero = let here : n + 0 ≡ n = omega arith in ap at here
settled at step steps n same (suc more) =
    let next : n + suc more ≡ n + more + 1 = omega arith in
    ap at next ∙ steps (n + more) ∙ ap step (settled at step steps n same more) ∙ sym same

-- so a walk by depth that finds the same at one more depth has found what stands at the last one
pub settled_at : {A : Type 0} (at : ℕ → A) (step : A → A) → ((n : ℕ) → at (n + 1) ≡ step (at n)) → (n last : ℕ) (found next : A) → n ≤ last
    → found ≡ at n → next ≡ step found → found ≡ next → found ≡ at last
settled_at at step steps n last found next within so_far is same =
    let rest : n + (last - n) ≡ last = omega (arith, within) in
    so_far ∙ sym (settled at step steps n (sym so_far ∙ same ∙ is ∙ ap step so_far) (last - n)) ∙ ap at rest

pub reached_none : (groups : List Group) (start : ℕ) → reached_within 0 groups start ≡ rising (start ∷ [])
unfolding reached_within
reached_none groups start = refl

pub reached_more : (n : ℕ) (groups : List Group) (start : ℕ) → reached_within (n + 1) groups start ≡ with_entered groups (reached_within n groups start)
unfolding reached_within
reached_more n groups start = ap (λ depth. reached_within depth groups start) (add-one n)

pub changes_none : (groups : List Group) → changes_within 0 groups ≡ []
unfolding changes_within
changes_none groups = refl

pub changes_more : (n : ℕ) (groups : List Group) → changes_within (n + 1) groups ≡ map (group_changes (changes_within n groups)) groups
unfolding changes_within
changes_more n groups = ap (λ depth. changes_within depth groups) (add-one n)

pub spent_none : (facts : Facts) (groups : List Group) → spent_within 0 facts groups ≡ replicate (length groups) 0
unfolding spent_within
spent_none facts groups = refl

pub spent_more : (n : ℕ) (facts : Facts) (groups : List Group) → spent_within (n + 1) facts groups ≡ after_groups facts groups (spent_within n facts groups)
unfolding spent_within
spent_more n facts groups = ap (λ depth. spent_within depth facts groups) (add-one n)

pub effects_none : (groups : List Group) → effects_within 0 groups ≡ []
unfolding effects_within
effects_none groups = refl

pub effects_more : (n : ℕ) (groups : List Group) → effects_within (n + 1) groups ≡ map (chain_effects (effects_within n groups)) groups
unfolding effects_within
effects_more n groups = ap (λ depth. effects_within depth groups) (add-one n)

-- ---- a depth that adds nothing is the last one

pub reached_settled : (n last : ℕ) (groups : List Group) (start : ℕ) (found next : List ℕ) → n ≤ last → found ≡ reached_within n groups start → next ≡ with_entered groups found → found ≡ next
    → found ≡ reached_within last groups start
reached_settled n last groups start = settled_at (λ depth. reached_within depth groups start) (with_entered groups) (λ m. reached_more m groups start) n last

pub changes_settled : (n last : ℕ) (groups : List Group) (found next : List (List ℕ)) → n ≤ last → found ≡ changes_within n groups → next ≡ map (group_changes found) groups → found ≡ next
    → found ≡ changes_within last groups
changes_settled n last groups = settled_at (λ depth. changes_within depth groups) (λ used. map (group_changes used) groups) (λ m. changes_more m groups) n last

pub spent_settled : (n last : ℕ) (facts : Facts) (groups : List Group) (found next : List ℕ) → n ≤ last → found ≡ spent_within n facts groups → next ≡ after_groups facts groups found → found ≡ next
    → found ≡ spent_within last facts groups
spent_settled n last facts groups = settled_at (λ depth. spent_within depth facts groups) (after_groups facts groups) (λ m. spent_more m facts groups) n last

pub effects_settled : (n last : ℕ) (groups : List Group) (found next : List ℕ) → n ≤ last → found ≡ effects_within n groups → next ≡ map (chain_effects found) groups → found ≡ next
    → found ≡ effects_within last groups
effects_settled n last groups = settled_at (λ depth. effects_within depth groups) (λ used. map (chain_effects used) groups) (λ m. effects_more m groups) n last
