use Rattle.std.proofs.Common.{◌≡◌, take, flat_map}
use Rattle.core_constructs.specs.Told.{differences_at}
use Rattle.core_constructs.proofs.groups.group_differences.Given as goal

abbrev pub invariant-loop-number : goal.invariant-loop-number
invariant-loop-number l = l.list ≡ flat_map (differences_at l.tables l.facts) (take l.number-index l.reached)
