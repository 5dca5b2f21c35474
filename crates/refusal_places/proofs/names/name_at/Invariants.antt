use Rattle.std.proofs.Common.{◌≡◌, drop}
use Rattle.refusal_places.specs.Names.{name_at}
use Rattle.refusal_places.proofs.names.name_at.Given as goal

abbrev pub invariant-loop-fault : goal.invariant-loop-fault
invariant-loop-fault l = name_at l.line (drop l.fault-index l.faults) ≡ name_at l.line l.faults
