use Rattle.std.proofs.Common.{◌≡◌, ◌++◌, flat_map, take}
use Rattle.source_uses.specs.Pairs.{rule_pairs}
use Rattle.source_uses.proofs.pairs.add_group_pairs.Given as goal

abbrev pub invariant-loop-rule : goal.invariant-loop-rule
invariant-loop-rule l = l.pairs.items ≡ l.fn.pairs.items ++ flat_map (rule_pairs l.options) (take l.rule-index l.rules)
