use Rattle.std.proofs.Common.{◌≡◌, ◌+◌, ◌-◌, ◌*◌}
use Rattle.kmx_verifier.specs.FaultOf.{records_fault}
use Rattle.kmx_verifier.proofs.contexts.check_records.Given as goal

abbrev pub invariant-loop-i : goal.invariant-loop-i
invariant-loop-i l = records_fault l.bytes l.using_keys (l.place + 20 * l.i) (l.count - l.i) ≡ records_fault l.bytes l.using_keys l.place l.count
