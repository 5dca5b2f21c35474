-- Which rules have keys that a record can have, and the records of a group, rule by rule.
use Rattle.std.specs.Prelude.{ℕ, Bool, true, ◌&&◌, nat_lt, nat_le, if◌then◌else◌, List, [], length, Option, Some}
use Rattle.std.specs.List.{list_all}
use Rattle.kmn_base.specs.declared.items.Element.{Element}
use Rattle.kmn_base.specs.declared.items.Element.TheVariants as element
use Rattle.rule_model.specs.declared.program.SrcItem.{SrcItem}
use Rattle.rule_model.specs.declared.program.SrcItem.TheVariants as source
use Rattle.rule_model.specs.declared.program.RuleDef.{RuleDef}
use Rattle.rule_model.specs.declared.program.GroupDef.{GroupDef}
use Rattle.rule_model.specs.declared.tables.Rule.{Rule}
use Rattle.rule_model.specs.declared.tables.Store.{Store}
use Rattle.rule_model.specs.Naming.{elements_named}
use Rattle.rule_model.specs.Src.{is_plain}
use Rattle.compile_laws.specs.Numbers.{Numbers}
use Rattle.compile_laws.specs.Compiles.{rule_records}

-- whether a character has one UTF-16 unit
abbrev pub is_unit : ℕ → Bool
is_unit c = nat_lt c 0x1_0000

-- whether an element is a character of one UTF-16 unit or is not a character
abbrev pub is_unit_element : Element → Bool
is_unit_element (element.Char c) = is_unit c
is_unit_element e = true

-- whether each character among elements has one UTF-16 unit, and elements are so few that both places of each fit in 32 bits
abbrev pub are_unit_elements : List Element → Bool
are_unit_elements elements = nat_le (length elements) 0x7FFF_FFFF && list_all is_unit_element elements

-- whether a key, or each key of a key store, is not a character past U+FFFF
abbrev pub is_unit_key : List Store → Option SrcItem → Bool
is_unit_key stores (Some (source.Char c)) = is_unit c
is_unit_key stores (Some (source.Any store)) = are_unit_elements (elements_named stores store)
is_unit_key stores item = true

abbrev pub has_unit_key : List Store → RuleDef → Bool
has_unit_key stores rule = is_unit_key stores rule.key

abbrev pub have_unit_keys : List Store → GroupDef → Bool
have_unit_keys stores group = list_all (has_unit_key stores) group.rules

-- the records of a statement; a match or nomatch statement has none
abbrev pub plain_records : Numbers → RuleDef → List Rule
plain_records numbers rule = if is_plain rule then rule_records numbers rule else []
