use Rattle.std.proofs.Common.{◌≡◌, ◌++◌, map, take, drop}
use Rattle.core_conversions.specs.Conversions.{plain_group}
use Rattle.core_conversions.proofs.sides.plain_groups.Given as goal

abbrev pub invariant-loop-group : goal.invariant-loop-group
invariant-loop-group l = l.groups ≡ map plain_group (take l.group-index l.fn.groups) ++ drop l.group-index l.fn.groups
