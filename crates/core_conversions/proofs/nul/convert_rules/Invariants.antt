use Rattle.std.proofs.Common.{◌≡◌, ◌++◌, map, take, drop}
use Rattle.core_conversions.specs.Conversions.{rule_with_nul_first}
use Rattle.core_conversions.proofs.nul.convert_rules.Given as goal

abbrev pub invariant-loop-rule : goal.invariant-loop-rule
invariant-loop-rule l = l.rules ≡ map rule_with_nul_first (take l.rule-index l.fn.rules) ++ drop l.rule-index l.fn.rules
