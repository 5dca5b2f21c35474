use Rattle.std.proofs.Common.{◌≡◌, ◌+◌, drop}
use Rattle.rule_expand.specs.Sizes.{groups_size}
use Rattle.rule_expand.proofs.sizes.groups_size.Given as goal

abbrev pub invariant-loop-group : goal.invariant-loop-group
invariant-loop-group l = l.size + groups_size l.numbers (drop l.group-index l.groups) ≡ groups_size l.numbers l.groups
