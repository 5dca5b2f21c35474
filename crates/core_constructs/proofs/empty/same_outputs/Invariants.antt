use Rattle.std.proofs.Common.{◌≡◌, drop}
use Rattle.core_constructs.specs.Empty.{same_outputs}
use Rattle.core_constructs.proofs.empty.same_outputs.Given as goal

abbrev pub invariant-loop-i : goal.invariant-loop-i
invariant-loop-i l = same_outputs (drop l.i l.a) (drop l.i l.b) ≡ same_outputs l.a l.b
