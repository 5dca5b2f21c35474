use Rattle.std.proofs.Common.{◌≡◌, map, take}
use Rattle.rule_expand.specs.Sizes.{outline_group}
use Rattle.rule_expand.proofs.groups.outlines_of.Given as goal

abbrev pub invariant-loop-group : goal.invariant-loop-group
invariant-loop-group l = l.made.items ≡ map (outline_group l.numbers) (take l.group-index l.groups)
