-- A cell has what a preview returns.
use Rattle.std.proofs.Common.{◌≡◌, ℕ, zero, suc, ◌+◌, true, false, List, [], ◌∷◌, drop, eqb, refl, ◌∙◌, ap, inl, inr, arith}
use Rattle.std.specs.List.{common_prefix_len}
use Rattle.std.proofs.lemmas.Bool.{cases_Bool, cond-true, cond-false}
use Rattle.kmn_base.specs.declared.items.Item.{Item}
use Rattle.kmn_base.specs.declared.items.Item.TheVariants.{Char, Mark}
use Rattle.kmn_base.specs.Lists.{characters}
use Rattle.rule_model.specs.KeyEvent.{begin_event, after_key, common_prefix, inserted}
use Rattle.rule_model.specs.Match.{same_item}
use Rattle.rule_model.specs.Tab.{tab}
use Rattle.rule_model.proofs.Edits.{nothing_alike_behind, prefix-same}
use Rattle.chart_board.specs.Cells.{items_after, without_common, put_items, cell}
use Rattle.chart_board.specs.Laws.{CellsHaveOutcomes}

-- the characters of the items after the first n characters
characters_after : (n : ℕ) (items : List Item) → characters (items_after n items) ≡ drop n (characters items)
characters_after zero items = refl
characters_after (suc n) [] = refl
characters_after (suc n) (Char c ∷ items) = characters_after n items
characters_after (suc n) (Mark m ∷ items) = characters_after (suc n) items

-- two lists that begin with the same item have it and what is after it in common, and two that begin with different items nothing
common_on : (x y : Item) (xs ys : List Item) → same_item x y ≡ true
    → common_prefix_len same_item (x ∷ xs) (y ∷ ys) ≡ suc (common_prefix_len same_item xs ys)
common_on x y xs ys e = cond-true (same_item x y) (1 + common_prefix_len same_item xs ys) 0 e ∙ omega arith

common_off : (x y : Item) (xs ys : List Item) → same_item x y ≡ false → common_prefix_len same_item (x ∷ xs) (y ∷ ys) ≡ 0
common_off x y xs ys e = cond-false (same_item x y) (1 + common_prefix_len same_item xs ys) 0 e

-- if the characters of two lists begin differently, both lists begin with the same marks only
marks_dropped : (old new : List Item) → common_prefix (characters old) (characters new) ≡ 0
    → characters (without_common old new) ≡ characters new
marks_dropped [] new none = refl
marks_dropped (x ∷ old) [] none = refl
marks_dropped (Char c ∷ old) (Mark n ∷ new) none = refl
marks_dropped (Mark m ∷ old) (Char d ∷ new) none = refl
marks_dropped (Char c ∷ old) (Char d ∷ new) none = elim (cases_Bool (eqb c d)) [
  | inl same ↦ let more = prefix-same c d (characters old) (characters new) same in absurd (omega (arith, more, none))
  | inr other ↦ ap (λ (n : ℕ). characters (drop n (Char d ∷ new))) (common_off (Char c) (Char d) old new other)
]
marks_dropped (Mark m ∷ old) (Mark n ∷ new) none = elim (cases_Bool (eqb m n)) [
  | inl same ↦
      ap (λ (k : ℕ). characters (drop k (Mark n ∷ new))) (common_on (Mark m) (Mark n) old new same) ∙ marks_dropped old new none
  | inr other ↦ ap (λ (k : ℕ). characters (drop k (Mark n ∷ new))) (common_off (Mark m) (Mark n) old new other)
]

-- the characters that a press puts are those that its edit inserts
characters_put : (old new : List Item) → characters (put_items old new) ≡ inserted old new
characters_put old new =
    let kept : ℕ = common_prefix (characters old) (characters new) in
    let none : common_prefix (characters (items_after kept old)) (characters (items_after kept new)) ≡ 0
    = rw (characters_after kept old, characters_after kept new) (nothing_alike_behind (characters old) (characters new)) in
    marks_dropped (items_after kept old) (items_after kept new) none ∙ characters_after kept new

pub cells_have_outcomes : CellsHaveOutcomes
unfolding cell
cells_have_outcomes tables state press = record {
  deleted = refl;
  inserted = characters_put state.left (after_key (tab tables) press (begin_event state.left state.current state.saved)).left;
  passed = refl;
  beeps = refl;
}
