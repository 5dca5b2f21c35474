use Rattle.std.proofs.Common.{◌≡◌}
use Rattle.import_outline.specs.Outline.{with_used_times, reachable}
use Rattle.import_outline.proofs.groups.reachable.Given as goal

abbrev pub invariant-loop-left : goal.invariant-loop-left
invariant-loop-left l = with_used_times l.left l.uses l.all ≡ reachable l.uses l.fn.names

abbrev pub decreases-loop-left : goal.decreases-loop-left
decreases-loop-left l = l.left
