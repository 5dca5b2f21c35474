-- The edit of a key event.
use Rattle.std.proofs.Common.{◌≡◌, ℕ, ◌+◌, ◌-◌, ◌≤◌, suc, true, false, List, [], ◌∷◌, ◌++◌, length, take, drop, eqb, refl, sym, ◌∙◌, ap, inl, inr, arith}
use Rattle.std.proofs.lemmas.Bool.{cases_Bool, cond-true, cond-false, eqb-true, eq-eqb}
use Rattle.std.proofs.lemmas.List.{take-append-drop}
use Rattle.std.proofs.lemmas.List.Sums.{common_prefix_len-le}
use Rattle.kmn_base.specs.declared.items.Item.{Item}
use Rattle.kmn_base.specs.Lists.{characters}
use Rattle.rule_model.specs.declared.event_state.EventState.{EventState}
use Rattle.rule_model.specs.KeyEvent.{begin_event, after_key, common_prefix, deleted, inserted}
use Rattle.rule_model.specs.Event.{State, by_editor, after_press, happening}
use Rattle.rule_model.specs.StepLaws.{deleted_text, EditGivesTheText, EditIsShort, PressEditsTheText}

-- two texts that begin with the same character share it and the common prefix of the rest
pub prefix-same : (c d : ℕ) (cs ds : List ℕ) → eqb c d ≡ true → common_prefix (c ∷ cs) (d ∷ ds) ≡ suc (common_prefix cs ds)
prefix-same c d cs ds e = cond-true (eqb c d) (1 + common_prefix cs ds) 0 e ∙ omega arith

prefix-other : (c d : ℕ) (cs ds : List ℕ) → eqb c d ≡ false → common_prefix (c ∷ cs) (d ∷ ds) ≡ 0
prefix-other c d cs ds e = cond-false (eqb c d) (1 + common_prefix cs ds) 0 e

-- the common prefixes of two texts are equal
pub same_prefix : (cs ds : List ℕ) → take (common_prefix cs ds) cs ≡ take (common_prefix cs ds) ds
same_prefix [] ds = refl
same_prefix (c ∷ cs) [] = refl
same_prefix (c ∷ cs) (d ∷ ds) = elim (cases_Bool (eqb c d)) [
  | inl same ↦
      let count = prefix-same c d cs ds same in
      let rest = same_prefix cs ds in
      let first : c ≡ d = eqb-true c d same in
      ap (λ (n : ℕ). take n (c ∷ cs)) count ∙ (λ i. first i ∷ rest i) ∙ ap (λ (n : ℕ). take n (d ∷ ds)) (sym count)
  | inr other ↦
      let count = prefix-other c d cs ds other in
      ap (λ (n : ℕ). take n (c ∷ cs)) count ∙ ap (λ (n : ℕ). take n (d ∷ ds)) (sym count)
]

-- after their common prefix, two texts begin differently
pub nothing_alike_behind : (cs ds : List ℕ) → common_prefix (drop (common_prefix cs ds) cs) (drop (common_prefix cs ds) ds) ≡ 0
nothing_alike_behind [] ds = refl
nothing_alike_behind (c ∷ cs) [] = refl
nothing_alike_behind (c ∷ cs) (d ∷ ds) = elim (cases_Bool (eqb c d)) [
  | inl same ↦ ap (λ (n : ℕ). common_prefix (drop n (c ∷ cs)) (drop n (d ∷ ds))) (prefix-same c d cs ds same) ∙ nothing_alike_behind cs ds
  | inr other ↦ ap (λ (n : ℕ). common_prefix (drop n (c ∷ cs)) (drop n (d ∷ ds))) (prefix-other c d cs ds other) ∙ prefix-other c d cs ds other
]

-- the rest of a text after all but its first n characters are deleted
left-of : (n : ℕ) (cs : List ℕ) → n ≤ length cs → length cs - (length cs - n) ≡ n
left-of n cs h = omega arith

kept_front : (old new : List Item) → length (characters old) - deleted old new ≡ common_prefix (characters old) (characters new)
kept_front old new = left-of (common_prefix (characters old) (characters new)) (characters old) (common_prefix_len-le eqb (characters old) (characters new)).0

pub edit_gives_the_text : EditGivesTheText
edit_gives_the_text old new =
    ap (λ (n : ℕ). take n (characters old) ++ inserted old new) (kept_front old new)
    ∙ ap (λ (front : List ℕ). front ++ inserted old new) (same_prefix (characters old) (characters new))
    ∙ take-append-drop (common_prefix (characters old) (characters new)) (characters new)

pub edit_is_short : EditIsShort
edit_is_short old new c more others from_old from_new =
    let none : common_prefix (deleted_text old new) (inserted old new) ≡ 0
    = ap (λ (n : ℕ). common_prefix (drop n (characters old)) (inserted old new)) (kept_front old new)
    ∙ nothing_alike_behind (characters old) (characters new) in
    let here : common_prefix (deleted_text old new) (inserted old new) ≡ common_prefix (c ∷ more) (c ∷ others)
    = λ i. common_prefix (from_old i) (from_new i) in
    let one : common_prefix (c ∷ more) (c ∷ others) ≡ suc (common_prefix more others) = prefix-same c c more others (eq-eqb c c refl) in
    omega arith

pub press_edits_the_text : PressEditsTheText
unfolding happening
press_edits_the_text kb state press kept =
    let s : EventState = after_key kb press (begin_event state.left state.current state.saved) in
    let acted : State = record state { left = s.left; current = s.current; saved = s.saved } in
    let after : after_press press s state ≡ acted = cond-false s.pass (by_editor press acted) acted kept in
    (edit_gives_the_text state.left s.left ∙ ap (λ (t : State). characters t.left) (sym after), ap (λ (t : State). t.right) after)
