use Rattle.std.proofs.Common.{◌≡◌, ◌++◌, flat_map, take}
use Rattle.source_warnings.specs.Keys.{rule_keys}
use Rattle.source_warnings.proofs.keys.add_group_keys.Given as goal

abbrev pub invariant-loop-rule : goal.invariant-loop-rule
invariant-loop-rule l = l.found.items ≡ l.fn.found.items ++ flat_map (rule_keys l.characters.keys) (take l.rule-index l.rules)
