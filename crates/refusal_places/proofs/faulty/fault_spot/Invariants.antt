use Rattle.std.proofs.Common.{◌≡◌, ◌-◌, length, drop}
use Rattle.refusal_places.specs.Spots.{fault_spot}
use Rattle.refusal_places.proofs.faulty.fault_spot.Given as goal

abbrev pub invariant-loop-at : goal.invariant-loop-at
invariant-loop-at l = fault_spot l.line 0 l.at (drop l.at l.bytes) ≡ fault_spot l.line 0 l.from (drop l.from l.bytes)

abbrev pub decreases-loop-at : goal.decreases-loop-at
decreases-loop-at l = length l.bytes - l.at
