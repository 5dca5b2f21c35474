-- An index of each group's records.
use Rattle.std.specs.Prelude.{◌≡◌, ℕ, min, List, [], length, map, slice_get, slice_index_or, Some, Vec}
use Rattle.rule_model.specs.declared.tables.Group.{Group}
use Rattle.rule_model.specs.declared.tables.Pat.{Pat}
use Rattle.rule_model.specs.Hold.{pattern_count}
use Rattle.rule_model.specs.Tab.{tab_pattern, tab_rule}
use Rattle.kmx_parts.specs.declared.context_item.ContextItem.{ContextItem}
use Rattle.kmx_parts.specs.ContextItems.{pattern_of}
use Rattle.rule_index.specs.declared.row.Row.{Row}
use Rattle.rule_index.specs.Classes.{rule_class}
use Rattle.rule_index.specs.Rows.{IsIndexOf}

-- the rows of a group's records, the rule context of each record, and the number of text items that each context takes
pub record RuleIndexValue : Type 0 where
  pub rows : List Row
  pub contexts : List (List Pat)
  pub counts : List ℕ

-- the class of each record of a group
abbrev pub record_classes : Group → List ℕ
record_classes group = map (λ rule. rule_class (tab_rule [] group.using_keys rule)) group.rules

-- the context of each record of a group
abbrev pub record_contexts : Group → List (List Pat)
record_contexts group = map (λ rule. rule.context) group.rules

-- the patterns of contexts whose items have the numbers of a file
abbrev pub listed : {A : Type 0} → List (Vec ContextItem A) → List (List Pat)
listed contexts = map (λ context. map pattern_of context.items) contexts

-- the number of text items that a context takes, at most 255; a context that can be played takes at most `CONTEXT_ITEMS`, which is less
abbrev pub context_count : List Pat → ℕ
context_count context = min (pattern_count (map (tab_pattern []) context)) 255

-- an index has the rows, the contexts and the counts of a group's records
pub record IsRuleIndexOf (group : Group) (index : RuleIndexValue) : Type 0 where
  pub records : IsIndexOf (record_classes group) index.rows
  pub contexts : index.contexts ≡ record_contexts group
  pub counts : index.counts ≡ map context_count (record_contexts group)

-- the index at a group's number is the index of its records
pub record AreIndexesOf (groups : List Group) (indexes : List RuleIndexValue) : Type 0 where
  pub count : length indexes ≡ length groups
  pub right : (n : ℕ) (group : Group) (d : RuleIndexValue) → slice_get groups n ≡ Some group → IsRuleIndexOf group (slice_index_or indexes n d)
