use Rattle.std.proofs.Common.{◌≡◌, map, take}
use Rattle.source_names.specs.Causes.{cause_refusal}
use Rattle.source_names.proofs.causes.refusals_of.Given as goal

abbrev pub invariant-loop-fault : goal.invariant-loop-fault
invariant-loop-fault l = l.refusals ≡ map cause_refusal (take l.fault-index l.faults)
