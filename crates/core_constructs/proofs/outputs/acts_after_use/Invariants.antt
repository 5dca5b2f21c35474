use Rattle.std.proofs.Common.{◌≡◌, drop}
use Rattle.core_constructs.specs.Outputs.{acts_after_use}
use Rattle.core_constructs.proofs.outputs.acts_after_use.Given as goal

abbrev pub invariant-loop-i : goal.invariant-loop-i
invariant-loop-i l = acts_after_use (drop l.i l.items) ≡ acts_after_use l.items
