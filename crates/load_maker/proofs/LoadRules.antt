-- Which rule of a load fires: after a character the rule that removes it, else the first one.
use Rattle.std.proofs.Common.{◌≡◌, inl, inr, ℕ, zero, suc, ◌+◌, ◌<◌, ◌≤◌, nat_eq, Bool, true, false, if◌then◌else◌, List, [], ◌∷◌, Option, Some, None, refl, ap, ◌∙◌, subst, arith}
use Rattle.std.proofs.lemmas.Bool.{cases_lt}
use Rattle.std.proofs.lemmas.Bool.Decides.{nat_tests}
use Rattle.kmn_base.specs.declared.items.Item.{Item}
use Rattle.kmn_base.specs.declared.items.Item.TheVariants as item
use Rattle.kmn_base.specs.declared.keys.KeyPress.{KeyPress}
use Rattle.virtual_keys.specs.Fits.{key_fits}
use Rattle.rule_model.specs.declared.event_state.Catch.{Catch}
use Rattle.rule_model.specs.declared.event_state.Caught.{Caught}
use Rattle.rule_model.specs.Match.{Content}
use Rattle.rule_model.specs.Hold.{holds, caught_by}
use Rattle.rule_model.proofs.CaughtParts.{fitting_place}
use Rattle.rule_model.specs.Choose.{best, best_with}
use Rattle.load_maker.specs.Keyboards.{key_a, load_rule, rules_from, press_a, press_space}

-- the text after a number of presses of K_A
abbrev pub left_after : ℕ → List Item
left_after zero = []
left_after (suc i) = item.Char (0x4E00 + i) ∷ []

-- what the rule of a number catches of the text
abbrev pub catch_of : ℕ → Catch
catch_of i = record { item = Some (item.Char (0x4E00 + i)); place = None }

abbrev pub caught_after : ℕ → Caught
caught_after zero = record { catches = []; key_place = None }
caught_after (suc i) = record { catches = catch_of i ∷ []; key_place = None }

-- what a rule after the first one catches, given whether its character is the text's
abbrev held_by : Content → KeyPress → ℕ → Bool → Option Caught
held_by content press i same = caught_by (if same then Some (catch_of i ∷ []) else None) (fitting_place content press key_a)

module _ (content : Content) where
  holds_by : (press : KeyPress) (i j : ℕ) → holds content (left_after (suc i)) press (load_rule (suc j)) ≡ held_by content press i (nat_eq (0x4E00 + i) (0x4E00 + j))
  holds_by press i j = refl

  first_holds : (i : ℕ) → holds content (left_after i) press_a (load_rule zero) ≡ Some (caught_after zero)
  unfolding key_fits
  first_holds zero = refl
  first_holds (suc i) = refl

  own_fits : (i : ℕ) → held_by content press_a i true ≡ Some (caught_after (suc i))
  unfolding key_fits
  own_fits i = refl

  own_holds : (i : ℕ) → holds content (left_after (suc i)) press_a (load_rule (suc i)) ≡ Some (caught_after (suc i))
  own_holds i =
      let same : nat_eq (0x4E00 + i) (0x4E00 + i) ≡ true = grind (arith, nat_tests) in
      holds_by press_a i i ∙ ap (held_by content press_a i) same ∙ own_fits i

  other_holds : (i j : ℕ) → i < suc j → holds content (left_after i) press_a (load_rule (suc j)) ≡ None
  other_holds zero j less = refl
  other_holds (suc i) j less =
      let differ : nat_eq (0x4E00 + i) (0x4E00 + j) ≡ false = grind (arith, nat_tests) in
      holds_by press_a i j ∙ ap (held_by content press_a i) differ

  later_holds : (i j : ℕ) → suc j < i → holds content (left_after i) press_a (load_rule (suc j)) ≡ None
  later_holds zero j less = absurd (omega arith)
  later_holds (suc i) j less =
      let differ : nat_eq (0x4E00 + i) (0x4E00 + j) ≡ false = grind (arith, nat_tests) in
      holds_by press_a i j ∙ ap (held_by content press_a i) differ

  -- no rule after the rule of the text's character holds
  none_behind : (i j count : ℕ) → i < suc j → best (holds content (left_after i) press_a) (rules_from (suc j) count) ≡ None
  none_behind i j zero less = refl
  none_behind i j (suc count) less =
      ap (λ (held : Option Caught). best_with (load_rule (suc j)) held (best (holds content (left_after i) press_a) (rules_from (suc (suc j)) count))) (other_holds i j less)
      ∙ none_behind i (suc j) count (omega arith)

  -- of the rules from the rule of the text's character on, this rule is the best
  own_first : (i count : ℕ) → best (holds content (left_after (suc i)) press_a) (rules_from (suc i) (suc count)) ≡ Some (load_rule (suc i), caught_after (suc i))
  own_first i count =
      ap (λ (held : Option Caught). best_with (load_rule (suc i)) held (best (holds content (left_after (suc i)) press_a) (rules_from (suc (suc i)) count))) (own_holds i)
      ∙ ap (best_with (load_rule (suc i)) (Some (caught_after (suc i)))) (none_behind (suc i) (suc i) count (omega arith))

  own_best : (i j count : ℕ) → j ≤ i → i < j + count → best (holds content (left_after (suc i)) press_a) (rules_from (suc j) count) ≡ Some (load_rule (suc i), caught_after (suc i))
  own_best i j zero least most = absurd (omega arith)
  own_best i j (suc count) least most = elim (cases_lt j i) [
    | inl less ↦
        ap (λ (held : Option Caught). best_with (load_rule (suc j)) held (best (holds content (left_after (suc i)) press_a) (rules_from (suc (suc j)) count))) (later_holds (suc i) j (omega arith))
        ∙ own_best i (suc j) count (omega arith) (omega arith)
    | inr all ↦
        subst (λ (k : ℕ). best (holds content (left_after (suc i)) press_a) (rules_from (suc k) (suc count)) ≡ Some (load_rule (suc i), caught_after (suc i))) (omega arith) (own_first i count)
  ]

  -- after a number of presses of K_A, the rule of this number is the best
  pub chosen_after : (n i : ℕ) → i ≤ n → best (holds content (left_after i) press_a) (rules_from 0 (suc n)) ≡ Some (load_rule i, caught_after i)
  chosen_after n zero within =
      ap (λ (held : Option Caught). best_with (load_rule zero) held (best (holds content (left_after zero) press_a) (rules_from 1 n))) (first_holds zero)
      ∙ ap (best_with (load_rule zero) (Some (caught_after zero))) (none_behind zero zero n (omega arith))
  chosen_after n (suc i) within =
      ap (λ (held : Option Caught). best_with (load_rule zero) held (best (holds content (left_after (suc i)) press_a) (rules_from 1 n))) (first_holds (suc i))
      ∙ ap (best_with (load_rule zero) (Some (caught_after zero))) (own_best i 0 n (omega arith) (omega arith))

  space_held : (i : ℕ) (same : Bool) → held_by content press_space i same ≡ None
  unfolding key_fits
  space_held i true = refl
  space_held i false = refl

  -- no rule holds for another key
  space_holds : (i j : ℕ) → holds content (left_after i) press_space (load_rule j) ≡ None
  unfolding key_fits
  space_holds zero zero = refl
  space_holds (suc i) zero = refl
  space_holds zero (suc j) = refl
  space_holds (suc i) (suc j) = holds_by press_space i j ∙ space_held i (nat_eq (0x4E00 + i) (0x4E00 + j))

  pub space_unmatched : (i j count : ℕ) → best (holds content (left_after i) press_space) (rules_from j count) ≡ None
  space_unmatched i j zero = refl
  space_unmatched i j (suc count) =
      ap (λ (held : Option Caught). best_with (load_rule j) held (best (holds content (left_after i) press_space) (rules_from (suc j) count))) (space_holds i j)
      ∙ space_unmatched i (suc j) count
