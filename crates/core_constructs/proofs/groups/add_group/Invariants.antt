use Rattle.std.proofs.Common.{◌≡◌, ◌++◌, drop, filter, map}
use Rattle.core_constructs.specs.Told.{group_difference, group_has}
use Rattle.core_constructs.proofs.groups.add_group.Given as goal

abbrev pub invariant-loop-construct : goal.invariant-loop-construct
invariant-loop-construct l = l.list ++ map (group_difference l.number) (filter (group_has l.facts l.group) (drop l.construct-index l.constructs)) ≡ l.fn.list ++ map (group_difference l.number) (filter (group_has l.facts l.group) l.constructs)
