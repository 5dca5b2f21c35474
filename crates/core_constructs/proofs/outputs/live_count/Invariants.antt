use Rattle.std.proofs.Common.{◌≡◌, ◌+◌, drop}
use Rattle.core_constructs.specs.Outputs.{live_count}
use Rattle.core_constructs.proofs.outputs.live_count.Given as goal

abbrev pub invariant-loop-i : goal.invariant-loop-i
invariant-loop-i l = l.i + live_count (drop l.i l.outputs) ≡ live_count l.outputs
