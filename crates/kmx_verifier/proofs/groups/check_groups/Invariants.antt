use Rattle.std.proofs.Common.{◌≡◌, ◌+◌, ◌-◌, ◌*◌, ◌≤◌}
use Rattle.kmn_base.specs.declared.limits.TheConstants.{RECORDS}
use Rattle.kmx_verifier.specs.FaultOf.{groups_fault}
use Rattle.kmx_verifier.proofs.groups.check_groups.Given as goal

abbrev pub invariant-loop-i : goal.invariant-loop-i
invariant-loop-i l =
    (groups_fault l.bytes l.records (l.place + 24 * l.i) (l.count - l.i) ≡ groups_fault l.bytes 0 l.place l.count) × (l.records ≤ RECORDS)
