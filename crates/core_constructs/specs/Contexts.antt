-- Contexts that Keyman's own engine reads differently.
use Rattle.std.specs.Prelude.{ℕ, ◌-◌, Bool, true, false, not, ◌&&◌, ◌||◌, nat_eq, List, [], ◌∷◌, count_by, drop, length, take, Option, Some, None, slice_get}
use Rattle.std.specs.List.{list_any}
use Rattle.kmn_base.specs.declared.items.Element.{Element}
use Rattle.kmn_base.specs.Rising.{is_among}
use Rattle.rule_model.specs.declared.system.TheConstants.{LAYER, PLATFORM}
use Rattle.rule_model.specs.declared.tables.Pat.{Pat}
use Rattle.rule_model.specs.declared.tables.Pat.TheVariants as pattern
use Rattle.rule_model.specs.declared.tables.Out.{Out}
use Rattle.rule_model.specs.declared.tables.Out.TheVariants as output
use Rattle.rule_model.specs.declared.tables.Store.{Store}
use Rattle.rule_model.specs.Patterns.{is_matched, is_nul}
use Rattle.rule_model.specs.System.{is_space}
use Rattle.rule_model.specs.Tab.{elements_of}

-- ---- `nul` and offsets

-- whether an item is a condition or `nul`, which no item of the text matches
abbrev pub is_unmatched : Pat → Bool
is_unmatched item = not (is_matched item)

abbrev pub begins_with_nul : List Pat → Bool
begins_with_nul [] = false
begins_with_nul (item ∷ items) = is_nul item

-- whether a context has a `nul` that isn't its first item
abbrev pub has_late_nul : List Pat → Bool
has_late_nul context = list_any is_nul (drop 1 context)

-- the number of conditions and `nul` before the item at an offset from 1
abbrev pub unmatched_before : List Pat → ℕ → ℕ
unmatched_before context offset = count_by is_unmatched (take (offset - 1) context)

-- whether an item of a context repeats an item that has a condition or `nul` before it. That engine does not count these items here
abbrev pub is_moved_pattern : List Pat → Pat → Bool
is_moved_pattern context (pattern.ContextAt offset) = not (nat_eq (unmatched_before context offset) 0)
is_moved_pattern context _ = false

-- whether an item of an output puts the item at an offset, and that engine puts another one: it subtracts all conditions and `nul` of the
-- context, and not only those before the offset
abbrev pub is_moved_output : List Pat → Out → Bool
is_moved_output context (output.ContextAt offset) = not (nat_eq (offset - 1 - count_by is_unmatched context) (offset - 1 - unmatched_before context offset))
is_moved_output context _ = false

-- whether an item of a context, or of an output, names a context item by its offset
abbrev pub has_offset : Pat → Bool
has_offset (pattern.Index store offset) = true
has_offset (pattern.ContextAt offset) = true
has_offset _ = false

abbrev pub puts_by_offset : Out → Bool
puts_by_offset (output.Index store offset) = true
puts_by_offset (output.ContextAt offset) = true
puts_by_offset _ = false

-- whether that engine counts an offset of a context, or of the live items of an output, differently
unfoldable pub counts_differently : List Pat → List Out → Bool
counts_differently context items =
    (list_any (is_moved_pattern context) context || list_any (is_moved_output context) items)
    || (begins_with_nul context && (list_any has_offset context || list_any puts_by_offset items))

-- ---- conditions

-- whether an item is a condition on the layer. That engine reads no layer, so the rule never matches there
abbrev pub asks_layer : Pat → Bool
asks_layer (pattern.SystemEqual id value) = nat_eq id LAYER
asks_layer (pattern.SystemUnequal id value) = nat_eq id LAYER
asks_layer _ = false

abbrev pub is_blank : Option Element → Bool
is_blank None = true
is_blank (Some element) = is_space element

-- whether a value is empty, or begins or ends with a space. That engine then reads an empty word, which no platform has
abbrev pub has_empty_word : List Element → Bool
has_empty_word value = is_blank (slice_get value 0) || is_blank (slice_get value (length value - 1))

-- whether an item is a condition on the platform with such a value
abbrev pub asks_empty_word : List Store → Pat → Bool
asks_empty_word stores (pattern.SystemEqual id value) = nat_eq id PLATFORM && has_empty_word (elements_of stores value)
asks_empty_word stores (pattern.SystemUnequal id value) = nat_eq id PLATFORM && has_empty_word (elements_of stores value)
asks_empty_word stores _ = false

-- whether an item is a condition whose value store is an option itself. That engine compares with its current value
abbrev pub asks_from_option : List ℕ → Pat → Bool
asks_from_option options (pattern.Equal store value) = is_among value options
asks_from_option options (pattern.Unequal store value) = is_among value options
asks_from_option options (pattern.SystemEqual id value) = is_among value options
asks_from_option options (pattern.SystemUnequal id value) = is_among value options
asks_from_option options _ = false

-- whether an item is a mark that isn't one of those that outputs put. A record with such an item never matches, in both engines
abbrev pub asks_unput : List ℕ → Pat → Bool
asks_unput marks (pattern.Mark mark) = not (is_among mark marks)
asks_unput marks _ = false
