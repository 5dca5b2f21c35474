-- How many items a context takes, pattern by pattern; the context and the count that an index has for a record.
use Rattle.std.proofs.Common.{◌≡◌, ℕ, ◌+◌, ◌<◌, ◌≤◌, Bool, true, false, cond, List, [], ◌∷◌, length, map, Some, slice_index_or, sym, ◌∙◌, ap, arith}
use Rattle.std.specs.Prelude.{slice_get}
use Rattle.std.proofs.lemmas.List.{get_or-map, length-map}
use Rattle.std.proofs.lemmas.List.Sums.{count_by-le-length, sum_by-cons}
use Rattle.std.proofs.lemmas.Option.{slice_get_within, get_or_from_slice_get}
use Rattle.kmn_base.specs.declared.limits.TheConstants.{CONTEXT_ITEMS}
use Rattle.rule_model.specs.declared.tables.Group.{Group}
use Rattle.rule_model.specs.declared.tables.Pat.{Pat}
use Rattle.rule_model.specs.declared.tables.Rule.{Rule}
use Rattle.rule_model.specs.Keyboard.{Pattern}
use Rattle.rule_model.specs.Match.{takes_item}
use Rattle.rule_model.specs.Hold.{pattern_count}
use Rattle.rule_model.specs.Tab.{tab_pattern}
use Rattle.rule_index.specs.Groups.{RuleIndexValue, context_count, record_contexts, IsRuleIndexOf}

-- a pattern that takes an item counts, and another pattern does not count
pub counted : (pattern : Pattern) (context : List Pattern) → takes_item pattern ≡ true → pattern_count (pattern ∷ context) ≡ 1 + pattern_count context
counted pattern context is = sum_by-cons (λ (p : Pattern). cond (takes_item p) 1 0) pattern context ∙ ap (λ (takes : Bool). cond takes 1 0 + pattern_count context) is

pub uncounted : (pattern : Pattern) (context : List Pattern) → takes_item pattern ≡ false → pattern_count (pattern ∷ context) ≡ pattern_count context
uncounted pattern context is =
    let same : 0 + pattern_count context ≡ pattern_count context = omega arith in
    sum_by-cons (λ (p : Pattern). cond (takes_item p) 1 0) pattern context ∙ ap (λ (takes : Bool). cond takes 1 0 + pattern_count context) is ∙ same

-- a context takes no more items than it has patterns
pub few_patterns : (context : List Pattern) → pattern_count context ≤ length context
few_patterns context = count_by-le-length takes_item context

-- the context at the number of a record is the context of the record
pub context_found : (group : Group) (index : RuleIndexValue) (n : ℕ) (rule : Rule) → IsRuleIndexOf group index → slice_get group.rules n ≡ Some rule
    → slice_index_or index.contexts n [] ≡ rule.context
context_found group index n rule is here =
    let context : Rule → List Pat = λ (r : Rule). r.context in
    ap (λ (contexts : List (List Pat)). slice_index_or contexts n []) is.contexts
    ∙ (get_or-map context group.rules n rule [] (slice_get_within group.rules n rule here) ∙ ap context (get_or_from_slice_get group.rules n rule rule here))

-- if the context of a record is short, the count at the record's number is the count of the context
pub count_found : (group : Group) (index : RuleIndexValue) (n : ℕ) (rule : Rule) → IsRuleIndexOf group index → slice_get group.rules n ≡ Some rule
    → length rule.context ≤ CONTEXT_ITEMS → slice_index_or index.counts n 0 ≡ pattern_count (map (tab_pattern []) rule.context)
count_found group index n rule is here short =
    let contexts : List (List Pat) = record_contexts group in
    let within : n < length contexts = omega (arith, slice_get_within group.rules n rule here, length-map group.rules (λ (r : Rule). r.context)) in
    let same : slice_index_or contexts n [] ≡ rule.context
    = sym (ap (λ (all : List (List Pat)). slice_index_or all n []) is.contexts) ∙ context_found group index n rule is here in
    let few : pattern_count (map (tab_pattern []) rule.context) ≤ length (map (tab_pattern []) rule.context) = few_patterns (map (tab_pattern []) rule.context) in
    let whole : context_count rule.context ≡ pattern_count (map (tab_pattern []) rule.context) = omega (arith, few, length-map rule.context (tab_pattern []), short) in
    ap (λ (counts : List ℕ). slice_index_or counts n 0) is.counts
    ∙ (get_or-map context_count contexts n [] 0 within ∙ (ap context_count same ∙ whole))
