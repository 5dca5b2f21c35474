use Rattle.std.proofs.Common.{◌≡◌, drop, List, ◌++◌}
use Rattle.rule_model.specs.declared.program.RuleDef.{RuleDef}
use Rattle.rule_checker.specs.Limits.{in_line_order}
use Rattle.rule_checker.specs.Walking.{walked}
use Rattle.rule_checker.proofs.walking.walk_group.Given as goal

abbrev pub invariant-loop-rule : goal.invariant-loop-rule
invariant-loop-rule l =
    (more : List RuleDef)
    → walked l.counted l.walk (in_line_order l.waiting (drop l.rule-index l.rules ++ more))
    ≡ walked l.counted l.initial.walk (in_line_order l.initial.waiting (l.rules ++ more))
