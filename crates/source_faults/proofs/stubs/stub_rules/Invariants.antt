use Rattle.std.proofs.Common.{◌≡◌, ◌++◌, map, take, drop}
use Rattle.rule_model.specs.declared.program.RuleDef.{RuleDef}
use Rattle.source_faults.specs.Stubs.{code_at, stub_rule}
use Rattle.source_faults.proofs.stubs.stub_rules.Given as goal

abbrev pub invariant-loop-rule : goal.invariant-loop-rule
invariant-loop-rule l = l.rules ≡ map (λ (rule : RuleDef). stub_rule (code_at l.refused rule.line) rule) (take l.rule-index l.fn.rules) ++ drop l.rule-index l.fn.rules
