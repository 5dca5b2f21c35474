-- The meaning of tables does not depend on the places of keys in key stores.
use Rattle.std.proofs.Common.{◌≡◌, Bool, List, [], ◌∷◌, ◌++◌, map, refl, ap}
use Rattle.rule_model.specs.declared.tables.Rule.{Rule}
use Rattle.rule_model.specs.declared.tables.Store.{Store}
use Rattle.rule_model.specs.declared.tables.Group.{Group}
use Rattle.rule_model.specs.declared.tables.Tables.{Tables}
use Rattle.rule_model.specs.Keyboard.{RuleMeaning}
use Rattle.rule_model.specs.System.{system_options}
use Rattle.rule_model.specs.Tab.{tab, tab_rule, tab_group, tab_options, with_options}
use Rattle.kmx_format.specs.TablesOf.{rule_without_place, group_without_places, no_places}
use Rattle.rule_checker.proofs.Placeless.{placeless_options}

rules_mean : (stores : List Store) (using_keys : Bool) (rules : List Rule) → map (tab_rule stores using_keys) (map rule_without_place rules) ≡ map (tab_rule stores using_keys) rules
rules_mean stores using_keys [] = refl
rules_mean stores using_keys (rule ∷ rules) = ap (λ (rest : List RuleMeaning). tab_rule stores using_keys rule ∷ rest) (rules_mean stores using_keys rules)

groups_mean : (stores : List Store) (groups : List Group) → map (tab_group stores) (map group_without_places groups) ≡ map (tab_group stores) groups
groups_mean stores [] = refl
groups_mean stores (group ∷ groups) =
    λ i. record (tab_group stores group) { rules = rules_mean stores group.using_keys group.rules i } ∷ groups_mean stores groups i

pub same_meaning : (tables : Tables) → tab (no_places tables) ≡ tab tables
unfolding tab tab_options
same_meaning tables =
    λ i. record (tab tables) { stores = with_options (placeless_options tables i) 0 tables.stores ++ system_options; groups = groups_mean tables.stores tables.groups i }
