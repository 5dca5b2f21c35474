use Rattle.std.proofs.Common.{◌≡◌, take}
use Rattle.source_names.specs.Telling.{names_lacked}
use Rattle.source_names.proofs.causes.names_lacked.Given as goal

abbrev pub invariant-loop-fault : goal.invariant-loop-fault
invariant-loop-fault l = l.names ≡ names_lacked (take l.fault-index l.faults)
