use Rattle.std.proofs.Common.{◌≡◌, length}
use Rattle.kmn_import.specs.Utf16.{units}
use Rattle.kmn_import.proofs.Utf16Steps.{after}
use Rattle.kmn_import.proofs.utf16.units.Given as goal

abbrev pub invariant-loop-rest : goal.invariant-loop-rest
invariant-loop-rest l = after l.all (units l.big_endian l.rest) ≡ units l.big_endian l.fn.bytes

abbrev pub decreases-loop-rest : goal.decreases-loop-rest
decreases-loop-rest l = length l.rest
