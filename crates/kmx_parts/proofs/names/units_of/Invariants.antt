use Rattle.std.proofs.Common.{◌≡◌, ◌++◌, length}
use Rattle.kmn_base.specs.Spelling.{whole_units}
use Rattle.kmx_parts.proofs.names.units_of.Given as goal

abbrev pub invariant-loop-rest : goal.invariant-loop-rest
invariant-loop-rest l = l.units.items ++ whole_units l.rest ≡ whole_units l.bytes

abbrev pub decreases-loop-rest : goal.decreases-loop-rest
decreases-loop-rest l = length l.rest
