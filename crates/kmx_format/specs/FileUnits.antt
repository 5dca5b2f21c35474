-- The spelling of a file's strings: names, elements, contexts and outputs as UTF-16 units.
use Rattle.std.specs.Prelude.{ℕ, ◌+◌, List, map}
use Rattle.std.specs.List.{flat_map}
use Rattle.std.specs.Str.{chars}
use Rattle.kmn_base.specs.declared.items.Element.{Element}
use Rattle.kmn_base.specs.declared.items.Element.TheVariants as element
use Rattle.kmn_base.specs.declared.units.UnitItem.{UnitItem}
use Rattle.kmn_base.specs.declared.units.UnitItem.TheVariants as spelled
use Rattle.kmn_base.specs.Spelling.{char_units, spelling}
use Rattle.item_codec.specs.declared.item_codes.TheConstants.{EQUAL, UNEQUAL}
use Rattle.rule_model.specs.declared.tables.Pat.{Pat}
use Rattle.rule_model.specs.declared.tables.Pat.TheVariants as pattern
use Rattle.rule_model.specs.declared.tables.Out.{Out}
use Rattle.rule_model.specs.declared.tables.Out.TheVariants as output

-- the unit item of a store element
abbrev pub unit_item_of_element : Element → UnitItem
unit_item_of_element (element.Char c) = spelled.Char c
unit_item_of_element (element.Mark mark) = spelled.Dead mark
unit_item_of_element (element.Key flags code) = spelled.Key flags code

-- the unit item of a context item; a file counts stores from 1
abbrev pub unit_item_of_pattern : Pat → UnitItem
unit_item_of_pattern (pattern.Char c) = spelled.Char c
unit_item_of_pattern (pattern.Mark mark) = spelled.Dead mark
unit_item_of_pattern (pattern.Any store) = spelled.Any (store + 1)
unit_item_of_pattern (pattern.NotAny store) = spelled.NotAny (store + 1)
unit_item_of_pattern (pattern.Index store offset) = spelled.Index (store + 1) offset
unit_item_of_pattern (pattern.ContextAt offset) = spelled.ContextAt offset
unit_item_of_pattern (pattern.Equal store value) = spelled.Test (store + 1) EQUAL (value + 1)
unit_item_of_pattern (pattern.Unequal store value) = spelled.Test (store + 1) UNEQUAL (value + 1)
unit_item_of_pattern (pattern.SystemEqual id value) = spelled.SystemTest (id + 1) EQUAL (value + 1)
unit_item_of_pattern (pattern.SystemUnequal id value) = spelled.SystemTest (id + 1) UNEQUAL (value + 1)
unit_item_of_pattern pattern.Nul = spelled.Nul

-- the unit item of an output item; a file counts stores and groups from 1
abbrev pub unit_item_of_output : Out → UnitItem
unit_item_of_output (output.Char c) = spelled.Char c
unit_item_of_output (output.Mark mark) = spelled.Dead mark
unit_item_of_output (output.Index store offset) = spelled.Index (store + 1) offset
unit_item_of_output output.Context = spelled.Context
unit_item_of_output (output.ContextAt offset) = spelled.ContextAt offset
unit_item_of_output (output.Enter group) = spelled.Enter (group + 1)
unit_item_of_output (output.Set store value) = spelled.Set (store + 1) (value + 1)
unit_item_of_output (output.SetSystem id value) = spelled.SetSystem (id + 1) (value + 1)
unit_item_of_output (output.Save store) = spelled.Save (store + 1)
unit_item_of_output (output.Reset store) = spelled.Reset (store + 1)
unit_item_of_output output.Nul = spelled.Nul
unit_item_of_output output.Beep = spelled.Beep
unit_item_of_output output.Stop = spelled.Stop

-- the units of a list of unit items
unfoldable pub item_units : List UnitItem → List ℕ
item_units = flat_map spelling

-- the units of a store's elements
abbrev pub element_units : List Element → List ℕ
element_units elements = item_units (map unit_item_of_element elements)

-- the units of a context
abbrev pub pattern_units : List Pat → List ℕ
pattern_units context = item_units (map unit_item_of_pattern context)

-- the units of an output
abbrev pub output_units : List Out → List ℕ
output_units output = item_units (map unit_item_of_output output)

-- a name in UTF-16; tables contain it in UTF-8
unfoldable pub name_units : List ℕ → List ℕ
name_units name = flat_map char_units (chars name)
