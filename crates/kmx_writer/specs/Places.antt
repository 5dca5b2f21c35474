-- Where the parts of a file begin.
use Rattle.std.specs.Prelude.{◌≡◌}
use Rattle.rule_model.specs.declared.tables.Tables.{Tables}
use Rattle.kmx_format.specs.File.{groups_place, rules_place, store_strings_place, group_strings_place, rule_strings_place, picture_place}
use Rattle.kmx_writer.specs.declared.places.Places.{Places}

-- the places are where the parts of the tables' file begin
pub record ArePlaces (tables : Tables) (places : Places) : Type 0 where
  pub groups : places.groups ≡ groups_place tables
  pub rules : places.rules ≡ rules_place tables
  pub store_strings : places.store_strings ≡ store_strings_place tables
  pub group_strings : places.group_strings ≡ group_strings_place tables
  pub rule_strings : places.rule_strings ≡ rule_strings_place tables
  pub picture : places.picture ≡ picture_place tables
