use Rattle.std.proofs.Common.{◌≡◌, ◌+◌, ◌-◌, ◌*◌, ◌≤◌}
use Rattle.kmn_base.specs.declared.limits.TheConstants.{ALL_ELEMENTS}
use Rattle.kmx_verifier.specs.FaultOf.{stores_fault}
use Rattle.kmx_verifier.proofs.stores.check_stores.Given as goal

abbrev pub invariant-loop-i : goal.invariant-loop-i
invariant-loop-i l =
    (stores_fault l.bytes l.elements (l.place + 12 * l.i) (l.count - l.i) ≡ stores_fault l.bytes 0 l.place l.count) × (l.elements ≤ ALL_ELEMENTS)
