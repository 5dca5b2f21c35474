-- A context holds with the same catches if a `nul` and a condition exchange places, since neither matches an item of the text.
use Rattle.std.proofs.Common.{◌≡◌, ℕ, ◌+◌, Bool, true, false, cond, List, [], ◌∷◌, ◌++◌, length, map, drop, Option, None, Some, refl, sym, ◌∙◌, ap, if◌then◌else◌}
use Rattle.std.specs.Prelude.{◌-◌, ◌&&◌, ◌||◌, nat_eq, nat_le, flat_map}
use Rattle.std.specs.List.{list_all, list_any}
use Rattle.std.proofs.lemmas.Bool.{false≢true}
use Rattle.std.proofs.lemmas.List.Sums.{sum_by-cons}
use Rattle.kmn_base.specs.declared.items.Item.{Item}
use Rattle.rule_model.specs.declared.event_state.Catch.{Catch}
use Rattle.rule_model.specs.declared.tables.Pat.{Pat}
use Rattle.rule_model.specs.declared.tables.Pat.TheVariants as pattern
use Rattle.rule_model.specs.declared.tables.Store.{Store}
use Rattle.rule_model.specs.Keyboard.{Pattern}
use Rattle.rule_model.specs.Patterns.{is_condition}
use Rattle.rule_model.specs.Match.{Content, takes_item, catch_next, catches_from}
use Rattle.rule_model.specs.Hold.{is_true, is_at_start, pattern_count, caught_by, fitting_place_with}
use Rattle.rule_model.specs.Tab.{tab_pattern, tab_rule, pattern_options, output_options}
use Rattle.core_conversions.specs.Conversions.{after_nuls, context_with_nul_first, nul_first, rule_with_nul_first}
use Rattle.core_conversions.specs.Laws.{KeepsPresses, NulFirstKeepsTraces}
use Rattle.core_conversions.proofs.SameTraces.{RulesAlike, presses_same, rules_alike, traces_same}

-- two contexts hold in the same states, with the same catches, and name the same options
record ContextsAlike (stores : List Store) (xs ys : List Pat) : Type 0 where
  true_alike : (content : Content) → list_all (is_true content) (map (tab_pattern stores) xs) ≡ list_all (is_true content) (map (tab_pattern stores) ys)
  starts : list_any is_at_start (map (tab_pattern stores) xs) ≡ list_any is_at_start (map (tab_pattern stores) ys)
  count : pattern_count (map (tab_pattern stores) xs) ≡ pattern_count (map (tab_pattern stores) ys)
  caught : (content : Content) (seen : List Catch) (text : List Item) → catches_from content seen (map (tab_pattern stores) xs) text ≡ catches_from content seen (map (tab_pattern stores) ys) text
  options : flat_map pattern_options xs ≡ flat_map pattern_options ys

module _ (stores : List Store) where
  abbrev shown : Pat → Pattern
  shown = tab_pattern stores

  itself : (xs : List Pat) → ContextsAlike stores xs xs
  itself xs = record { true_alike = λ content. refl; starts = refl; count = refl; caught = λ content seen text. refl; options = refl }

  chain : (xs ys zs : List Pat) → ContextsAlike stores xs ys → ContextsAlike stores ys zs → ContextsAlike stores xs zs
  chain xs ys zs a b =
      record {
        true_alike = λ content. a.true_alike content ∙ b.true_alike content;
        starts = a.starts ∙ b.starts;
        count = a.count ∙ b.count;
        caught = λ content seen text. a.caught content seen text ∙ b.caught content seen text;
        options = a.options ∙ b.options;
      }

  behind : (p : Pat) (xs ys : List Pat) → ContextsAlike stores xs ys → ContextsAlike stores (p ∷ xs) (p ∷ ys)
  behind p xs ys alike =
      record {
        true_alike = λ content i. is_true content (shown p) && alike.true_alike content i;
        starts = λ i. is_at_start (shown p) || alike.starts i;
        count = sum_by-cons (λ (q : Pattern). cond (takes_item q) 1 0) (shown p) (map shown xs)
            ∙ ap (λ (n : ℕ). cond (takes_item (shown p)) 1 0 + n) alike.count
            ∙ sym (sum_by-cons (λ (q : Pattern). cond (takes_item q) 1 0) (shown p) (map shown ys));
        caught = λ content seen text i. catch_next content seen (shown p) (λ catch rest. alike.caught content (seen ++ catch ∷ []) rest i) text;
        options = ap (λ (rest : List ℕ). pattern_options p ++ rest) alike.options;
      }

  exchanged : (p : Pat) (xs : List Pat) → is_condition p ≡ true → ContextsAlike stores (pattern.Nul ∷ p ∷ xs) (p ∷ pattern.Nul ∷ xs)
  exchanged (pattern.Equal store value) xs told = record { true_alike = λ content. refl; starts = refl; count = refl; caught = λ content seen text. refl; options = refl }
  exchanged (pattern.Unequal store value) xs told = record { true_alike = λ content. refl; starts = refl; count = refl; caught = λ content seen text. refl; options = refl }
  exchanged (pattern.SystemEqual id value) xs told = record { true_alike = λ content. refl; starts = refl; count = refl; caught = λ content seen text. refl; options = refl }
  exchanged (pattern.SystemUnequal id value) xs told = record { true_alike = λ content. refl; starts = refl; count = refl; caught = λ content seen text. refl; options = refl }
  exchanged p xs told = absurd (no_condition told)
    where
      no_condition : false ≡ true → ⊥
      no_condition e = false≢true e

  after_alike : (p : Pat) (xs : List Pat) → is_condition p ≡ true → ContextsAlike stores (after_nuls p xs) (p ∷ xs)
  after_alike p [] told = itself (p ∷ [])
  after_alike p (pattern.Nul ∷ xs) told =
      chain (pattern.Nul ∷ after_nuls p xs) (pattern.Nul ∷ p ∷ xs) (p ∷ pattern.Nul ∷ xs) (behind pattern.Nul (after_nuls p xs) (p ∷ xs) (after_alike p xs told)) (exchanged p xs told)
  after_alike p (x ∷ xs) told = itself (p ∷ x ∷ xs)

  condition_alike : (p : Pat) (xs ys : List Pat) → is_condition p ≡ true → ContextsAlike stores xs ys → ContextsAlike stores (after_nuls p xs) (p ∷ ys)
  condition_alike p xs ys told alike = chain (after_nuls p xs) (p ∷ xs) (p ∷ ys) (after_alike p xs told) (behind p xs ys alike)

  first_alike : (xs : List Pat) → ContextsAlike stores (context_with_nul_first xs) xs
  first_alike [] = itself []
  first_alike (pattern.Nul ∷ xs) = behind pattern.Nul (context_with_nul_first xs) xs (first_alike xs)
  first_alike (pattern.Equal store value ∷ xs) = condition_alike (pattern.Equal store value) (context_with_nul_first xs) xs refl (first_alike xs)
  first_alike (pattern.Unequal store value ∷ xs) = condition_alike (pattern.Unequal store value) (context_with_nul_first xs) xs refl (first_alike xs)
  first_alike (pattern.SystemEqual id value ∷ xs) = condition_alike (pattern.SystemEqual id value) (context_with_nul_first xs) xs refl (first_alike xs)
  first_alike (pattern.SystemUnequal id value ∷ xs) = condition_alike (pattern.SystemUnequal id value) (context_with_nul_first xs) xs refl (first_alike xs)
  first_alike (x ∷ xs) = itself (x ∷ xs)

nul_first_alike : RulesAlike rule_with_nul_first
nul_first_alike =
    record {
      output = λ rule. refl;
      options = λ rule n. ap (λ (options : List ℕ). list_any (nat_eq n) (options ++ flat_map output_options rule.output)) (first_alike [] rule.context).options;
      holds = λ stores using_keys content left press rule.
          let alike = first_alike stores rule.context in
          λ i. if alike.true_alike content i && (if alike.starts i then nat_eq (length left) (alike.count i) else nat_le (alike.count i) (length left))
          then caught_by (alike.caught content [] (drop (length left - alike.count i) left) i) (fitting_place_with [] content press (tab_rule stores using_keys rule).key)
          else None;
    }

pub nul_first_keeps_traces : NulFirstKeepsTraces
nul_first_keeps_traces = traces_same _ (rules_alike rule_with_nul_first nul_first_alike)

pub nul_first_keeps_presses : KeepsPresses nul_first
nul_first_keeps_presses = presses_same _ (rules_alike rule_with_nul_first nul_first_alike)
