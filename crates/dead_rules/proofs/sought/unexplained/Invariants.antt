use Rattle.std.proofs.Common.{◌≡◌, take}
use Rattle.dead_rules.specs.DeadRules.{unexplained}
use Rattle.dead_rules.proofs.sought.unexplained.Given as goal

abbrev pub invariant-loop-rule : goal.invariant-loop-rule
invariant-loop-rule l = l.dead.items ≡ unexplained l.found (take l.rule-index l.rules)
