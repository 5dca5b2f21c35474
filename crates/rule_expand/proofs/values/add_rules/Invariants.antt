use Rattle.std.proofs.Common.{◌≡◌, drop}
use Rattle.std.specs.Prelude.{flat_map}
use Rattle.rule_model.specs.Naming.{rule_items}
use Rattle.rule_expand.specs.Values.{with_values}
use Rattle.rule_expand.proofs.values.add_rules.Given as goal

abbrev pub invariant-loop-rule : goal.invariant-loop-rule
invariant-loop-rule l = with_values l.values (flat_map rule_items (drop l.rule-index l.rules)) ≡ with_values l.initial.values (flat_map rule_items l.rules)
