use Rattle.std.proofs.Common.{◌≡◌, ◌++◌, map}
use Rattle.rule_model.specs.declared.tables.Rule.{Rule}
use Rattle.rule_index.specs.Groups.{listed, record_contexts}
use Rattle.rule_index.proofs.contexts.record_contexts.Given as goal

abbrev pub invariant-loop-rule : goal.invariant-loop-rule
invariant-loop-rule l = listed l.contexts.items ++ map (λ (rule : Rule). rule.context) l.rule-iterator ≡ record_contexts l.group
