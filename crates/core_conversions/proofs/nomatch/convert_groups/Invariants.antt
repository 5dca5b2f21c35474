use Rattle.std.proofs.Common.{◌≡◌, ◌++◌, map, take, drop}
use Rattle.core_conversions.specs.Conversions.{group_with_nomatch}
use Rattle.core_conversions.proofs.nomatch.convert_groups.Given as goal

abbrev pub invariant-loop-group : goal.invariant-loop-group
invariant-loop-group l = l.groups ≡ map group_with_nomatch (take l.group-index l.fn.groups) ++ drop l.group-index l.fn.groups
