use Rattle.std.proofs.Common.{◌≡◌, drop}
use Rattle.check_run.specs.Shown.{late}
use Rattle.check_run.proofs.shown.late.Given as goal

abbrev pub invariant-loop-other : goal.invariant-loop-other
invariant-loop-other l = late l.first (drop l.other-index l.others) ≡ late l.first l.others
