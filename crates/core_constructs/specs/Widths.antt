-- The units that items take in the text that Keyman's own engine keeps. Its window has the last 63 units.
use Rattle.std.specs.Prelude.{ℕ, ◌+◌, ◌-◌, Bool, ◌&&◌, ◌||◌, nat_eq, nat_lt, if◌then◌else◌, min, max, List, [], ◌∷◌, length, slice_get, sum_by, unwrap_or}
use Rattle.std.specs.List.{list_any}
use Rattle.std.specs.Option.{option_map_or}
use Rattle.kmn_base.specs.declared.items.Element.{Element}
use Rattle.kmn_base.specs.declared.items.Element.TheVariants as element
use Rattle.kmn_base.specs.Rising.{is_among}
use Rattle.rule_model.specs.declared.tables.Pat.{Pat}
use Rattle.rule_model.specs.declared.tables.Pat.TheVariants as pattern
use Rattle.rule_model.specs.declared.tables.Store.{Store}
use Rattle.rule_model.specs.Patterns.{is_matched}
use Rattle.core_constructs.specs.Contexts.{begins_with_nul}
use Rattle.core_constructs.specs.declared.facts.Facts.{Facts}

-- ---- the most units

-- two for a character past U+FFFF, one for another character
abbrev pub char_units : ℕ → ℕ
char_units c = if nat_lt c 0x1_0000 then 1 else 2

-- three for a mark; a key is never equal to an item
abbrev pub element_units : Element → ℕ
element_units (element.Char c) = char_units c
element_units (element.Mark mark) = 3
element_units (element.Key flags code) = 0

abbrev pub most_units : List Element → ℕ
most_units [] = 0
most_units (element ∷ elements) = max (element_units element) (most_units elements)

abbrev pub store_units : Store → ℕ
store_units store = most_units store.elements

-- the most units of any item: three if outputs put marks
abbrev pub widest : Facts → ℕ
widest facts = if nat_eq (length facts.marks) 0 then 2 else 3

-- the most units of an element of a store. An option can have any value
abbrev pub store_width : Facts → ℕ → ℕ
store_width facts store = if is_among store facts.options then 3 else min 3 (unwrap_or (slice_get facts.units store) 0)

-- the most units that an item of a context matches, where a repeated item counts as any item
abbrev pub item_width : Facts → Pat → ℕ
item_width facts (pattern.Char c) = char_units c
item_width facts (pattern.Mark mark) = 3
item_width facts (pattern.Any store) = store_width facts store
item_width facts (pattern.NotAny store) = widest facts
item_width facts (pattern.Index store offset) = store_width facts store
item_width facts (pattern.ContextAt offset) = 3
item_width facts _ = 0

-- the same, where a repeated item counts as the item that it repeats
abbrev pub width_in : Facts → List Pat → Pat → ℕ
width_in facts context (pattern.ContextAt offset) = option_map_or (item_width facts) (slice_get context (offset - 1)) 3
width_in facts context item = item_width facts item

-- units with the most that a context matches, up to 64
abbrev pub with_context : Facts → List Pat → ℕ → ℕ
with_context facts context units = min 64 (units + sum_by (width_in facts context) context)

-- whether a context can need more than the window has left after some units were spent. With a `nul` first, the window must also have one
-- item more, to show that it isn't the start of the text
unfoldable pub is_long : Facts → ℕ → List Pat → Bool
is_long facts spent context =
    (nat_lt 63 (with_context facts context spent) && list_any is_matched context)
    || (begins_with_nul context && nat_lt (63 - widest facts) (with_context facts context spent))
