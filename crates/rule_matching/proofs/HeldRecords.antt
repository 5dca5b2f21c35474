-- Whether the record with a number holds, and what it has caught then.
use Rattle.std.proofs.Common.{◌≡◌, ℕ, ◌-◌, ◌<◌, ◌≤◌, Bool, true, false, List, [], ◌∷◌, drop, length, map, Option, Some, None, unwrap_or, inl, inr, refl, sym, ◌∙◌, ap, arith}
use Rattle.std.proofs.lemmas.Bool.{cases_Bool}
use Rattle.std.proofs.lemmas.List.{length-map}
use Rattle.std.proofs.lemmas.Option.{slice_get-map, unwrap_or-slice_get}
use Rattle.std.specs.Prelude.{if◌then◌else◌, nat_eq, option_map, slice_get, slice_index_or}
use Rattle.kmn_base.specs.declared.limits.TheConstants.{CONTEXT_ITEMS}
use Rattle.kmn_base.specs.declared.items.Item.{Item}
use Rattle.kmn_base.specs.declared.keys.KeyPress.{KeyPress}
use Rattle.kmn_base.specs.declared.keys.RuleKey.TheVariants as key
use Rattle.virtual_keys.specs.Fits.{key_fits}
use Rattle.rule_model.specs.declared.event_state.Catch.{Catch}
use Rattle.rule_model.specs.declared.event_state.Caught.{Caught}
use Rattle.rule_model.specs.declared.tables.Group.{Group}
use Rattle.rule_model.specs.declared.tables.Pat.{Pat}
use Rattle.rule_model.specs.declared.tables.Rule.{Rule}
use Rattle.rule_model.specs.declared.tables.Store.{Store}
use Rattle.rule_model.specs.Keyboard.{Pattern, RuleMeaning}
use Rattle.rule_model.specs.Match.{Content}
use Rattle.rule_model.specs.Hold.{pattern_count, caught_by, holds}
use Rattle.rule_model.specs.Choose.{Chosen}
use Rattle.rule_model.specs.Tab.{tab_pattern, tab_rule}
use Rattle.kmx_parts.specs.declared.context_item.ContextItem.{ContextItem}
use Rattle.kmx_parts.specs.ContextItems.{pattern_of}
use Rattle.rule_index.specs.Groups.{RuleIndexValue, IsRuleIndexOf}
use Rattle.rule_index.proofs.ContextCounts.{context_found, count_found}
use Rattle.rule_matching.specs.Matching.{allowed_catches, item_meaning}
use Rattle.rule_matching.specs.MatchState.{held_record, AreShort}
use Rattle.rule_matching.proofs.AllowedContexts.{allowed_holds, short_holds_not, unfitting_holds_not}
use Rattle.rule_matching.proofs.Contexts.{short_in_rules}

-- the meanings of items are the meanings of their patterns
meanings : (stores : List Store) (items : List ContextItem) → map (item_meaning stores) items ≡ map (tab_pattern stores) (map pattern_of items)
meanings stores [] = refl
meanings stores (item ∷ items) = ap (λ (patterns : List Pattern). item_meaning stores item ∷ patterns) (meanings stores items)

-- if a record is short, the count that an index has for it is the count of its context
pub record_count : (group : Group) (index : RuleIndexValue) (number : ℕ) (rule : Rule) → IsRuleIndexOf group index → AreShort group.rules
    → slice_get group.rules number ≡ Some rule → (count : ℕ) → count ≡ slice_index_or index.counts number 0
    → count ≡ pattern_count (map (tab_pattern []) rule.context)
record_count group index number rule is short here count counted =
    counted ∙ count_found group index number rule is here (short_in_rules group.rules number rule short here)

-- the context that an index has at a number is the context of the record, or empty if there is no record
context_of : (group : Group) (index : RuleIndexValue) (number : ℕ) → IsRuleIndexOf group index
    → slice_index_or index.contexts number [] ≡ unwrap_or (option_map (λ (rule : Rule). rule.context) (slice_get group.rules number)) []
context_of group index number is =
    let context : Rule → List Pat = λ (rule : Rule). rule.context in
    ap (λ (contexts : List (List Pat)). slice_index_or contexts number []) is.contexts
    ∙ (sym (unwrap_or-slice_get (map context group.rules) number [])
    ∙ ap (λ (given : Option (List Pat)). unwrap_or given []) (slice_get-map context group.rules number))

-- if the contexts of a group are short, the context that an index has at a number has at most `CONTEXT_ITEMS` items
pub items_few : (group : Group) (index : RuleIndexValue) (number : ℕ) → IsRuleIndexOf group index → AreShort group.rules
    → (items : List ContextItem) → map pattern_of items ≡ slice_index_or index.contexts number [] → length items ≤ CONTEXT_ITEMS
items_few group index number is short items are = by (slice_get group.rules number) refl
  where
    count : (given : Option Rule) → slice_get group.rules number ≡ given → length items ≡ length (unwrap_or (option_map (λ (rule : Rule). rule.context) given) [])
    count given here =
        sym (length-map items pattern_of)
        ∙ ap (λ (patterns : List Pat). length patterns) (are ∙ context_of group index number is
        ∙ ap (λ (given : Option Rule). unwrap_or (option_map (λ (rule : Rule). rule.context) given) []) here)

    by : (given : Option Rule) → slice_get group.rules number ≡ given → length items ≤ CONTEXT_ITEMS
    by None here = omega (arith, count None here)
    by (Some rule) here = omega (arith, count (Some rule) here, short_in_rules group.rules number rule short here)

module _ (content : Content) (press : KeyPress) (stores : List Store) (group : Group) (index : RuleIndexValue) (number : ℕ)
    (is : IsRuleIndexOf group index) (short : AreShort group.rules) (left : List Item) (count : ℕ) (counted : count ≡ slice_index_or index.counts number 0) where
  abbrev meant : Rule → RuleMeaning
  meant rule = tab_rule stores group.using_keys rule

  abbrev answer : Option Chosen
  answer = held_record content left press (option_map meant (slice_get group.rules number))

  abbrev is_fitting : Rule → Bool
  is_fitting rule = key_fits (if group.using_keys then rule.key else key.Any) press

  -- if there is no record with the number, none is held
  pub none_not_held : slice_get group.rules number ≡ None → None ≡ answer
  none_not_held here = sym (ap (λ (given : Option Rule). held_record content left press (option_map meant given)) here)

  -- if there is a record with the number, the result is what it catches
  answered : (rule : Rule) → slice_get group.rules number ≡ Some rule → (caught : Option Caught) → caught ≡ holds content left press (meant rule)
      → option_map (λ (c : Caught). (meant rule, c)) caught ≡ answer
  answered rule here caught are =
      ap (option_map (λ (c : Caught). (meant rule, c))) are
      ∙ sym (ap (λ (given : Option Rule). held_record content left press (option_map meant given)) here)

  -- if the key of the record does not fit, or if it takes more items than there are, it is not held
  pub unfitting_not_held : (rule : Rule) → slice_get group.rules number ≡ Some rule → is_fitting rule ≡ false → None ≡ answer
  unfitting_not_held rule here unfit = answered rule here None (unfitting_holds_not content press stores group.using_keys rule left count unfit)

  pub short_not_held : length left < count → None ≡ answer
  short_not_held less = by (slice_get group.rules number) refl
    where
      by : (given : Option Rule) → slice_get group.rules number ≡ given → None ≡ answer
      by None here = none_not_held here
      by (Some rule) here = answered rule here None
          (short_holds_not content press stores group.using_keys rule left count (record_count group index number rule is short here count counted) less)

  module _ (few : count ≤ length left) (items : List ContextItem) (are : map pattern_of items ≡ slice_index_or index.contexts number [])
      (found : Option (List Catch))
      (caught : found ≡ allowed_catches content (nat_eq (length left) count) [] (map (item_meaning stores) items) (drop (length left - count) left)) where
    -- if the key of the record fits, it is held with what the items of its context catch
    pub items_held : (rule : Rule) → slice_get group.rules number ≡ Some rule → is_fitting rule ≡ true
        → option_map (λ (c : Caught). (meant rule, c)) (caught_by found (Some None)) ≡ answer
    items_held rule here fit =
        let all : List Pattern → Option (List Catch) = λ (patterns : List Pattern). allowed_catches content (nat_eq (length left) count) [] patterns (drop (length left - count) left) in
        answered rule here (caught_by found (Some None))
        (ap (λ (f : Option (List Catch)). caught_by f (Some None)) (caught ∙ ap all (meanings stores items ∙ ap (map (tab_pattern stores)) (are ∙ context_found group index number rule is here)))
        ∙ allowed_holds content press stores group.using_keys rule left count fit (record_count group index number rule is short here count counted) few)

    -- if the items of its context catch nothing, the record is not held, whatever its key is
    pub uncaught_not_held : found ≡ None → None ≡ answer
    uncaught_not_held none = by (slice_get group.rules number) refl
      where
        by : (given : Option Rule) → slice_get group.rules number ≡ given → None ≡ answer
        by None here = none_not_held here
        by (Some rule) here = elim (cases_Bool (is_fitting rule)) [
          | inl fit ↦ ap (λ (f : Option (List Catch)). option_map (λ (c : Caught). (meant rule, c)) (caught_by f (Some None))) (sym none) ∙ items_held rule here fit
          | inr unfit ↦ unfitting_not_held rule here unfit
        ]
