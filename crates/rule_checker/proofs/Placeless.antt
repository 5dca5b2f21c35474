-- The options of tables don't depend on the places of keys.
use Rattle.std.proofs.Common.{◌≡◌, List, [], ◌∷◌, ◌++◌, map, refl, ap}
use Rattle.std.specs.Prelude.{flat_map}
use Rattle.rule_model.specs.declared.tables.Rule.{Rule}
use Rattle.rule_model.specs.declared.tables.Group.{Group}
use Rattle.rule_model.specs.declared.tables.Tables.{Tables}
use Rattle.rule_model.specs.Tab.{tab_options, rule_options, group_options}
use Rattle.kmx_format.specs.TablesOf.{rule_without_place, group_without_places, no_places}

rules_use : (rules : List Rule) → flat_map rule_options (map rule_without_place rules) ≡ flat_map rule_options rules
rules_use [] = refl
rules_use (rule ∷ rules) = ap (λ rest. rule_options rule ++ rest) (rules_use rules)

groups_use : (groups : List Group) → flat_map group_options (map group_without_places groups) ≡ flat_map group_options groups
groups_use [] = refl
groups_use (group ∷ groups) = rw (rules_use group.rules) (ap (λ rest. group_options group ++ rest) (groups_use groups))

pub placeless_options : (tables : Tables) → tab_options (no_places tables) ≡ tab_options tables
unfolding tab_options
placeless_options tables = groups_use tables.groups
