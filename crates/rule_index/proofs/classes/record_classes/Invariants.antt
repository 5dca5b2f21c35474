use Rattle.std.proofs.Common.{◌≡◌, ◌++◌, [], map}
use Rattle.rule_model.specs.declared.tables.Rule.{Rule}
use Rattle.rule_model.specs.Tab.{tab_rule}
use Rattle.rule_index.specs.Classes.{rule_class}
use Rattle.rule_index.specs.Groups.{record_classes}
use Rattle.rule_index.proofs.classes.record_classes.Given as goal

abbrev pub invariant-loop-rule : goal.invariant-loop-rule
invariant-loop-rule l = l.classes.items ++ map (λ (rule : Rule). rule_class (tab_rule [] l.using_keys rule)) l.rule-iterator ≡ record_classes l.group
