use Rattle.std.proofs.Common.{◌≡◌, map, take}
use Rattle.core_constructs.specs.Changes.{group_changes}
use Rattle.core_constructs.proofs.changes.next_changes.Given as goal

abbrev pub invariant-loop-group : goal.invariant-loop-group
invariant-loop-group l = l.next ≡ map (group_changes l.used) (take l.group-index l.groups)
