-- The records that are tested: the next candidate is the first record that can hold, and no record after the last candidate holds.
use Rattle.std.proofs.Common.{◌≡◌, ℕ, zero, suc, ◌+◌, ◌<◌, ◌≤◌, Bool, List, [], ◌∷◌, length, drop, map, get_or, Some, None, Option, refl, sym, ◌∙◌, ap, subst, arith}
use Rattle.std.specs.Prelude.{option_map, slice_get}
use Rattle.std.proofs.lemmas.List.{drop_all, drop_more, get_or-map, length-map}
use Rattle.kmn_base.specs.declared.items.Item.{Item}
use Rattle.kmn_base.specs.declared.keys.KeyPress.{KeyPress}
use Rattle.rule_model.specs.declared.event_state.Caught.{Caught}
use Rattle.rule_model.specs.declared.tables.Rule.{Rule}
use Rattle.rule_model.specs.declared.tables.Store.{Store}
use Rattle.rule_model.specs.Keyboard.{RuleMeaning}
use Rattle.rule_model.specs.Choose.{Chosen, first, first_with}
use Rattle.rule_model.specs.Match.{Content}
use Rattle.rule_model.specs.Hold.{holds}
use Rattle.rule_model.specs.Tab.{tab_rule}
use Rattle.rule_index.specs.declared.row.Row.{Row}
use Rattle.rule_index.specs.Classes.{rule_class, matching_classes}
use Rattle.rule_index.specs.Next.{IsNext, IsTheNext, NoneIsLeft}
use Rattle.rule_index.specs.Rows.{IsIndexOf}
use Rattle.rule_index.specs.Walk.{CandidatesValue}
use Rattle.rule_index.proofs.Skipping.{first_is_candidate}
use Rattle.rule_matching.specs.MatchState.{held_record}

-- the class of each record, by which it can match
abbrev pub classes_of : Bool → List Rule → List ℕ
classes_of using_keys rules = map (λ (rule : Rule). rule_class (tab_rule [] using_keys rule)) rules

-- if an iterator over the records of a group returns a result for the classes of a press, the result is the next candidate
pub walked : (walk : CandidatesValue) (records : List Row) (press : KeyPress) (left : List Item) (using_keys : Bool) (rules : List Rule) (result : Option ℕ)
    → walk.rows ≡ records → walk.wanted ≡ matching_classes press left → IsIndexOf (classes_of using_keys rules) records
    → ((classes : List ℕ) → IsIndexOf classes walk.rows → IsNext walk.wanted (length walk.wanted) classes walk.from result)
    → IsNext (matching_classes press left) 6 (classes_of using_keys rules) walk.from result
walked walk records press left using_keys rules result rows wanted index next =
    subst (λ (classes : List ℕ). IsNext classes (length classes) (classes_of using_keys rules) walk.from result) wanted
    (next (classes_of using_keys rules) (subst (IsIndexOf (classes_of using_keys rules)) (sym rows) index))

-- the first record that holds, from a number on
abbrev pub first_from : Content → List Item → KeyPress → List Store → Bool → List Rule → ℕ → Option Chosen
first_from content left press stores using_keys rules from = first (holds content left press) (drop from (map (tab_rule stores using_keys) rules))

-- if a record is the next candidate from a number on, it is one of the records and not before that number
pub candidate_within : (press : KeyPress) (left : List Item) (using_keys : Bool) (rules : List Rule) (from number : ℕ)
    → IsNext (matching_classes press left) 6 (classes_of using_keys rules) from (Some number) → (from ≤ number) × (number < length rules)
candidate_within press left using_keys rules from number (IsTheNext m behind within met skipped) =
    (behind, omega (arith, within, length-map rules (λ (rule : Rule). rule_class (tab_rule [] using_keys rule))))

-- if a number is the next candidate from another number on, no record between them holds
to_candidate : (content : Content) (left : List Item) (press : KeyPress) (stores : List Store) (using_keys : Bool) (rules : List Rule) (from number : ℕ)
    → IsNext (matching_classes press left) 6 (classes_of using_keys rules) from (Some number)
    → first_from content left press stores using_keys rules from ≡ first_from content left press stores using_keys rules number
to_candidate content left press stores using_keys rules from number (IsTheNext m behind within met skipped) =
    first_is_candidate content left press stores using_keys rules from number behind (λ n j up less inside few. skipped n j up less few)

-- if no candidate is left, no record holds
pub none_left : (content : Content) (left : List Item) (press : KeyPress) (stores : List Store) (using_keys : Bool) (rules : List Rule) (from : ℕ)
    → from ≤ length rules → IsNext (matching_classes press left) 6 (classes_of using_keys rules) from None
    → first_from content left press stores using_keys rules from ≡ None
none_left content left press stores using_keys rules from up (NoneIsLeft none) =
    let count : length (classes_of using_keys rules) ≡ length rules = length-map rules (λ (rule : Rule). rule_class (tab_rule [] using_keys rule)) in
    let all : length (map (tab_rule stores using_keys) rules) ≤ length rules = omega (arith, length-map rules (tab_rule stores using_keys)) in
    first_is_candidate content left press stores using_keys rules from (length rules) up (λ n j behind less inside few. none n j behind (omega (arith, count, inside)) few)
    ∙ ap (first (holds content left press)) (drop_all (length rules) (map (tab_rule stores using_keys) rules) all)

-- the records from a number on begin with the record of that number
from_number : (content : Content) (left : List Item) (press : KeyPress) (stores : List Store) (using_keys : Bool) (rules : List Rule) (number : ℕ) (rule : Rule)
    → number < length rules → rule ≡ get_or rules number rule
    → first_from content left press stores using_keys rules number
    ≡ first_with (tab_rule stores using_keys rule) (holds content left press (tab_rule stores using_keys rule)) (first_from content left press stores using_keys rules (number + 1))
from_number content left press stores using_keys rules number rule within is =
    let meant : RuleMeaning = tab_rule stores using_keys rule in
    let all : List RuleMeaning = map (tab_rule stores using_keys) rules in
    let inside : number < length all = omega (arith, within, length-map rules (tab_rule stores using_keys)) in
    let same : get_or all number meant ≡ meant = get_or-map (tab_rule stores using_keys) rules number rule meant within ∙ ap (tab_rule stores using_keys) (sym is) in
    ap (first (holds content left press)) (drop_more all number meant inside ∙ ap (λ (r : RuleMeaning). r ∷ drop (number + 1) all) same)

-- if a number is below the count of records, it has a record
pub there : (rules : List Rule) (number : ℕ) → number < length rules → (rule : Rule) × (slice_get rules number ≡ Some rule) × (rule ≡ get_or rules number rule)
there [] number within = absurd (omega arith)
there (rule ∷ rules) zero within = (rule, refl, refl)
there (rule ∷ rules) (suc number) within = there rules number (omega arith)

-- if a record holds, it is selected; if it does not, the choice is made from the records after it
held_first : (rule : RuleMeaning) (one : Option Caught) (others : Option Chosen) (chosen : Chosen)
    → option_map {U = Chosen} (λ (caught : Caught). (rule, caught)) one ≡ Some chosen → first_with rule one others ≡ Some chosen
held_first rule None others chosen is = absurd (cc)
held_first rule (Some caught) others chosen is = is

passed_first : (rule : RuleMeaning) (one : Option Caught) (others : Option Chosen)
    → option_map {U = Chosen} (λ (caught : Caught). (rule, caught)) one ≡ None → first_with rule one others ≡ others
passed_first rule None others is = refl
passed_first rule (Some caught) others is = absurd (cc)

module _ (content : Content) (left : List Item) (press : KeyPress) (stores : List Store) (using_keys : Bool) (rules : List Rule) (from number : ℕ)
    (next : IsNext (matching_classes press left) 6 (classes_of using_keys rules) from (Some number)) where
  -- if the candidate holds, it is the first record that holds
  pub candidate_holds : (chosen : Chosen) → held_record content left press (option_map (tab_rule stores using_keys) (slice_get rules number)) ≡ Some chosen
      → first_from content left press stores using_keys rules from ≡ Some chosen
  candidate_holds chosen held =
      let within = (candidate_within press left using_keys rules from number next).1 in
      let found = there rules number within in
      let meant : RuleMeaning = tab_rule stores using_keys found.0 in
      let here = sym (ap (λ (given : Option Rule). held_record content left press (option_map (tab_rule stores using_keys) given)) found.1) ∙ held in
      to_candidate content left press stores using_keys rules from number next
      ∙ (from_number content left press stores using_keys rules number found.0 within found.2
      ∙ held_first meant (holds content left press meant) (first_from content left press stores using_keys rules (number + 1)) chosen here)

  -- if the candidate does not hold, the first record that holds is after it
  pub candidate_passed : held_record content left press (option_map (tab_rule stores using_keys) (slice_get rules number)) ≡ None
      → first_from content left press stores using_keys rules from ≡ first_from content left press stores using_keys rules (number + 1)
  candidate_passed none =
      let within = (candidate_within press left using_keys rules from number next).1 in
      let found = there rules number within in
      let meant : RuleMeaning = tab_rule stores using_keys found.0 in
      let here = sym (ap (λ (given : Option Rule). held_record content left press (option_map (tab_rule stores using_keys) given)) found.1) ∙ none in
      to_candidate content left press stores using_keys rules from number next
      ∙ (from_number content left press stores using_keys rules number found.0 within found.2
      ∙ passed_first meant (holds content left press meant) (first_from content left press stores using_keys rules (number + 1)) here)
