use Rattle.std.proofs.Common.{◌≡◌, ◌++◌, map, take, drop}
use Rattle.core_conversions.specs.Conversions.{plain_rule}
use Rattle.core_conversions.proofs.sides.plain_rules.Given as goal

abbrev pub invariant-loop-rule : goal.invariant-loop-rule
invariant-loop-rule l = l.rules ≡ map plain_rule (take l.rule-index l.fn.rules) ++ drop l.rule-index l.fn.rules
