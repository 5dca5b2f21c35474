-- Rules, groups and tables whose items have spellings.
use Rattle.std.specs.Prelude.{◌<◌, ◌^◌}
use Rattle.std.specs.List.{All}
use Rattle.std.specs.Str.{IsUtf8}
use Rattle.kmn_base.specs.Spelling.{IsSpellable}
use Rattle.rule_model.specs.declared.tables.Rule.{Rule}
use Rattle.rule_model.specs.declared.tables.Group.{Group}
use Rattle.rule_model.specs.declared.tables.Tables.{Tables}
use Rattle.kmx_format.specs.File.{picture_place}
use Rattle.kmx_format.specs.FileUnits.{unit_item_of_pattern, unit_item_of_output}
use Rattle.kmx_format.specs.Writable.{IsWritableStore}

-- each item of a rule has a spelling
pub record IsSpellableRule (rule : Rule) : Type 0 where
  pub context : All (λ item. IsSpellable (unit_item_of_pattern item)) rule.context
  pub output : All (λ item. IsSpellable (unit_item_of_output item)) rule.output

-- the name of a group is UTF-8, and each item of its outputs and rules has a spelling
pub record IsSpellableGroup (group : Group) : Type 0 where
  pub name : IsUtf8 group.name
  pub rules : All IsSpellableRule group.rules
  pub on_match : All (λ item. IsSpellable (unit_item_of_output item)) group.on_match
  pub on_nomatch : All (λ item. IsSpellable (unit_item_of_output item)) group.on_nomatch

-- each item of the tables has a spelling, and the sum of all sizes is a number that the writer can add up
pub record AreSpellable (tables : Tables) : Type 0 where
  pub stores : All IsWritableStore tables.stores
  pub groups : All IsSpellableGroup tables.groups
  pub small : picture_place tables < 2 ^ 40
