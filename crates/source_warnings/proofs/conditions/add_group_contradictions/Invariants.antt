use Rattle.std.proofs.Common.{◌≡◌, ◌++◌, flat_map, take}
use Rattle.source_warnings.specs.Conditions.{rule_contradiction}
use Rattle.source_warnings.proofs.conditions.add_group_contradictions.Given as goal

abbrev pub invariant-loop-rule : goal.invariant-loop-rule
invariant-loop-rule l = l.found.items ≡ l.fn.found.items ++ flat_map rule_contradiction (take l.rule-index l.rules)
