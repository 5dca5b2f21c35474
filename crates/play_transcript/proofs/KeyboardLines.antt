-- If tables mean the same keyboard, their records have the same lines.
use Rattle.std.proofs.Common.{◌≡◌, ℕ, List, [], ◌∷◌, ◌++◌, map, Bool, refl, sym, ap, ◌∙◌}
use Rattle.std.specs.Prelude.{flat_map}
use Rattle.kmn_base.specs.Rising.{rising}
use Rattle.rule_model.specs.declared.tables.Group.{Group}
use Rattle.rule_model.specs.declared.tables.Rule.{Rule}
use Rattle.rule_model.specs.declared.tables.Store.{Store}
use Rattle.rule_model.specs.declared.tables.Tables.{Tables}
use Rattle.rule_model.specs.Keyboard.{RuleMeaning, GroupMeaning, Keyboard}
use Rattle.rule_model.specs.Tab.{tab, tab_rule, tab_group}
use Rattle.rule_trace.specs.Coverage.{rule_lines, record_lines, lines_of_tables}

abbrev lines_of_rules : List RuleMeaning → List ℕ
lines_of_rules rules = map (λ (rule : RuleMeaning). rule.line) rules

abbrev lines_of_groups : List GroupMeaning → List ℕ
lines_of_groups groups = flat_map (λ (group : GroupMeaning). lines_of_rules group.rules) groups

abbrev lines_of_keyboard : Keyboard → List ℕ
lines_of_keyboard kb = lines_of_groups kb.groups

of_rules : (stores : List Store) (using_keys : Bool) (rules : List Rule) → lines_of_rules (map (tab_rule stores using_keys) rules) ≡ rule_lines rules
of_rules stores using_keys [] = refl
of_rules stores using_keys (rule ∷ rules) = λ i. rule.line ∷ of_rules stores using_keys rules i

of_groups : (stores : List Store) (groups : List Group) → lines_of_groups (map (tab_group stores) groups) ≡ flat_map (λ (group : Group). rule_lines group.rules) groups
of_groups stores [] = refl
of_groups stores (group ∷ groups) = λ i. of_rules stores group.using_keys group.rules i ++ of_groups stores groups i

of_tables : (tables : Tables) → lines_of_keyboard (tab tables) ≡ record_lines tables
unfolding tab
of_tables tables = of_groups tables.stores tables.groups

same_record_lines : (tables other : Tables) → tab other ≡ tab tables → record_lines other ≡ record_lines tables
same_record_lines tables other is = sym (of_tables other) ∙ ap lines_of_keyboard is ∙ of_tables tables

pub same_lines_of_tables : (tables other : Tables) → tab other ≡ tab tables → lines_of_tables other ≡ lines_of_tables tables
unfolding lines_of_tables
same_lines_of_tables tables other is = ap rising (same_record_lines tables other is)
