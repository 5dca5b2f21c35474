-- The first record of a group that holds: a candidate that holds after all records before it are passed over, or none if all records are
-- passed over.
use Rattle.std.proofs.Common.{◌≡◌, ◌≢◌, ℕ, zero, suc, ◌+◌, ◌<◌, Bool, true, false, List, [], ◌∷◌, length, Some, None, Option, inl, inr, refl, sym, ◌∙◌, ap, arith}
use Rattle.std.specs.Prelude.{find, is_some, option_map, slice_get, slice_index_or}
use Rattle.std.proofs.lemmas.Bool.{cases_lt, cond-true, cond-false}
use Rattle.std.proofs.lemmas.List.{get_or_default, get_or-map, length-map}
use Rattle.kmn_base.specs.declared.items.Item.{Item}
use Rattle.kmn_base.specs.declared.keys.KeyPress.{KeyPress}
use Rattle.rule_model.specs.declared.event_state.Caught.{Caught}
use Rattle.rule_model.specs.declared.tables.Group.{Group}
use Rattle.rule_model.specs.declared.tables.Rule.{Rule}
use Rattle.rule_model.specs.Keyboard.{RuleMeaning}
use Rattle.rule_model.specs.Choose.{Chosen}
use Rattle.rule_model.specs.Match.{Content}
use Rattle.rule_model.specs.Hold.{holds}
use Rattle.rule_model.specs.Tab.{tab_rule}
use Rattle.rule_index.specs.Classes.{rule_class, matching_classes}
use Rattle.rule_index.specs.Next.{IsNext, IsTheNext, NoneIsLeft}
use Rattle.rule_index.proofs.Meeting.{holding_is_wanted}
use Rattle.rule_index.proofs.Skipping.{class_is_of_the_record}
use Rattle.rule_matching.specs.MatchState.{content_at, held_record, is_held, MatchStateValue}
use Rattle.rule_matching.proofs.Candidates.{classes_of, there}

-- the records before a number are passed over: a test is false for each of them
abbrev pub ArePassed : (Rule → Bool) → List Rule → ℕ → Type 0
ArePassed test rules count = (n : ℕ) (d : Rule) → n < count → n < length rules → test (slice_index_or rules n d) ≡ false

-- if a record passes the test and all records before it are passed over, it is the first that passes
found_at : (test : Rule → Bool) (rules : List Rule) (number : ℕ) (rule : Rule) → slice_get rules number ≡ Some rule → test rule ≡ true → ArePassed test rules number
    → Some rule ≡ find test rules
found_at test [] number rule is held passed = absurd (cc)
found_at test (r ∷ rules) zero rule is held passed =
    let same : r ≡ rule = cc in
    sym (cond-true (test r) (Some r) (find test rules) (ap test same ∙ held) ∙ ap (λ (x : Rule). Some x) same)
found_at test (r ∷ rules) (suc number) rule is held passed =
    found_at test rules number rule is held (λ n d below within. passed (suc n) d (omega (arith, below)) (omega (arith, within)))
    ∙ sym (cond-false (test r) (Some r) (find test rules) (passed zero r (omega arith) (omega arith)))

-- if all records are passed over, no record passes the test
pub none_found : (test : Rule → Bool) (rules : List Rule) → ArePassed test rules (length rules) → None ≡ find test rules
none_found test [] passed = refl
none_found test (r ∷ rules) passed =
    none_found test rules (λ n d below within. passed (suc n) d (omega (arith, below)) (omega (arith, within)))
    ∙ sym (cond-false (test r) (Some r) (find test rules) (passed zero r (omega arith) (omega arith)))

-- if `held_record` is Some, the record holds; if it is None, the record does not hold
held_is : (content : Content) (left : List Item) (press : KeyPress) (rule : RuleMeaning) (chosen : Chosen) → held_record content left press (Some rule) ≡ Some chosen
    → is_some (holds content left press rule) ≡ true
held_is content left press rule chosen = by (holds content left press rule)
  where
    by : (o : Option Caught) → option_map {U = Chosen} (λ (caught : Caught). (rule, caught)) o ≡ Some chosen → is_some o ≡ true
    by None is = absurd (cc)
    by (Some caught) is = refl

held_not : (content : Content) (left : List Item) (press : KeyPress) (rule : RuleMeaning) → held_record content left press (Some rule) ≡ None
    → is_some (holds content left press rule) ≡ false
held_not content left press rule = by (holds content left press rule)
  where
    by : (o : Option Caught) → option_map {U = Chosen} (λ (caught : Caught). (rule, caught)) o ≡ None → is_some o ≡ false
    by None is = refl
    by (Some caught) is = absurd (cc)

module _ (moment : MatchStateValue) (group : Group) (left : List Item) (press : KeyPress) where
  -- if the class of a record is not a class of the press and the list, the record does not hold
  unwanted : (rule : Rule) → ((j : ℕ) → j < 6 → rule_class (tab_rule [] group.using_keys rule) ≢ slice_index_or (matching_classes press left) j 0)
      → is_held moment group left press rule ≡ false
  unwanted rule none = by (holds (content_at moment) left press (tab_rule moment.tables.stores group.using_keys rule)) refl
    where
      by : (o : Option Caught) → holds (content_at moment) left press (tab_rule moment.tables.stores group.using_keys rule) ≡ o → is_some o ≡ false
      by None is = refl
      by (Some caught) is =
          let wanted = holding_is_wanted (content_at moment) left press (tab_rule moment.tables.stores group.using_keys rule) caught is in
          absurd (none wanted.0 wanted.1 (class_is_of_the_record moment.tables.stores group.using_keys rule ∙ wanted.2))

  class_at : (n : ℕ) (d : Rule) → n < length group.rules
      → slice_index_or (classes_of group.using_keys group.rules) n 0 ≡ rule_class (tab_rule [] group.using_keys (slice_index_or group.rules n d))
  class_at n d within = get_or-map (λ (rule : Rule). rule_class (tab_rule [] group.using_keys rule)) group.rules n d 0 within

  -- if the records before a number are passed over, so are the records before the next candidate, or all records if no candidate is left
  pub passed_to : (from number : ℕ) → IsNext (matching_classes press left) 6 (classes_of group.using_keys group.rules) from (Some number)
      → ArePassed (is_held moment group left press) group.rules from → ArePassed (is_held moment group left press) group.rules number
  passed_to from number (IsTheNext m behind inside met skipped) passed n d below within = elim (cases_lt n from) [
    | inl early ↦ passed n d early within
    | inr late ↦ unwanted (slice_index_or group.rules n d) (λ j few same. skipped n j late below few (class_at n d within ∙ same))
  ]

  pub passed_all : (from : ℕ) → IsNext (matching_classes press left) 6 (classes_of group.using_keys group.rules) from None
      → ArePassed (is_held moment group left press) group.rules from → ArePassed (is_held moment group left press) group.rules (length group.rules)
  passed_all from (NoneIsLeft none) passed n d below within = elim (cases_lt n from) [
    | inl early ↦ passed n d early within
    | inr late ↦ (
        let count : length (classes_of group.using_keys group.rules) ≡ length group.rules = length-map group.rules (λ (rule : Rule). rule_class (tab_rule [] group.using_keys rule)) in
        unwanted (slice_index_or group.rules n d) (λ j few same. none n j late (omega (arith, count, within)) few (class_at n d within ∙ same)))
  ]

  module _ (number : ℕ) where
    abbrev held_at : Option Chosen
    held_at = held_record (content_at moment) left press (option_map (tab_rule moment.tables.stores group.using_keys) (slice_get group.rules number))

    held_there : (rule : Rule) (answer : Option Chosen) → slice_get group.rules number ≡ Some rule → held_at ≡ answer
        → held_record (content_at moment) left press (Some (tab_rule moment.tables.stores group.using_keys rule)) ≡ answer
    held_there rule answer is held =
        sym (ap (λ (given : Option Rule). held_record (content_at moment) left press (option_map (tab_rule moment.tables.stores group.using_keys) given)) is) ∙ held

    -- if a candidate holds and the records before it are passed over, it is the first record that holds
    pub candidate_found : (rule : Rule) (chosen : Chosen) → slice_get group.rules number ≡ Some rule → held_at ≡ Some chosen
        → ArePassed (is_held moment group left press) group.rules number → Some rule ≡ find (is_held moment group left press) group.rules
    candidate_found rule chosen is held passed =
        found_at (is_held moment group left press) group.rules number rule is
        (held_is (content_at moment) left press (tab_rule moment.tables.stores group.using_keys rule) chosen (held_there rule (Some chosen) is held)) passed

    -- if a candidate does not hold, it is passed over
    pub passed_one : number < length group.rules → held_at ≡ None → ArePassed (is_held moment group left press) group.rules number
        → ArePassed (is_held moment group left press) group.rules (number + 1)
    passed_one inside none passed n d below within = elim (cases_lt n number) [
      | inl early ↦ passed n d early within
      | inr late ↦
          let this : n ≡ number = omega (arith, late, below) in
          let found = there group.rules number inside in
          let same : slice_index_or group.rules n d ≡ found.0 =
          ap (λ (k : ℕ). slice_index_or group.rules k d) this ∙ get_or_default group.rules number d found.0 inside ∙ sym found.2 in
          ap (is_held moment group left press) same
          ∙ held_not (content_at moment) left press (tab_rule moment.tables.stores group.using_keys found.0) (held_there found.0 None found.1 none)
    ]
