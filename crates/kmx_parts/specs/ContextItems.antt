-- The items of a context with the numbers of a file, and the patterns that they represent.
use Rattle.std.specs.Prelude.{Option, option_map}
use Rattle.kmn_base.specs.declared.units.UnitItem.{UnitItem}
use Rattle.rule_model.specs.declared.tables.Pat.{Pat}
use Rattle.rule_model.specs.declared.tables.Pat.TheVariants as pattern
use Rattle.kmx_format.specs.TablesOf.{pattern_of_unit_item}
use Rattle.kmx_parts.specs.declared.context_item.ContextItem.{ContextItem}
use Rattle.kmx_parts.specs.declared.context_item.ContextItem.TheVariants as item

-- the pattern of an item
abbrev pub pattern_of : ContextItem → Pat
pattern_of (item.Char c) = pattern.Char c
pattern_of (item.Mark m) = pattern.Mark m
pattern_of (item.Any store) = pattern.Any store
pattern_of (item.NotAny store) = pattern.NotAny store
pattern_of (item.Index store offset) = pattern.Index store offset
pattern_of (item.ContextAt offset) = pattern.ContextAt offset
pattern_of (item.Equal store value) = pattern.Equal store value
pattern_of (item.Unequal store value) = pattern.Unequal store value
pattern_of (item.SystemEqual id value) = pattern.SystemEqual id value
pattern_of (item.SystemUnequal id value) = pattern.SystemUnequal id value
pattern_of item.Nul = pattern.Nul

-- the item of a pattern
abbrev pub item_of : Pat → ContextItem
item_of (pattern.Char c) = item.Char c
item_of (pattern.Mark m) = item.Mark m
item_of (pattern.Any store) = item.Any store
item_of (pattern.NotAny store) = item.NotAny store
item_of (pattern.Index store offset) = item.Index store offset
item_of (pattern.ContextAt offset) = item.ContextAt offset
item_of (pattern.Equal store value) = item.Equal store value
item_of (pattern.Unequal store value) = item.Unequal store value
item_of (pattern.SystemEqual id value) = item.SystemEqual id value
item_of (pattern.SystemUnequal id value) = item.SystemUnequal id value
item_of pattern.Nul = item.Nul

-- the context item of a unit item
abbrev pub item_of_unit_item : UnitItem → Option ContextItem
item_of_unit_item unit = option_map item_of (pattern_of_unit_item unit)
