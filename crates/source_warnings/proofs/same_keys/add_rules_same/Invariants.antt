use Rattle.std.proofs.Common.{◌≡◌, ◌++◌, flat_map, take}
use Rattle.source_warnings.specs.SameKeys.{rule_same}
use Rattle.source_warnings.proofs.same_keys.add_rules_same.Given as goal

abbrev pub invariant-loop-rule : goal.invariant-loop-rule
invariant-loop-rule l = l.found.items ≡ l.fn.found.items ++ flat_map (rule_same l.pressed.keys l.again.keys) (take l.rule-index l.rules)
