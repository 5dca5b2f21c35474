use Rattle.std.proofs.Common.{◌≡◌, None, length}
use Rattle.kmn_import.specs.Utf16.{unit_characters}
use Rattle.kmn_import.proofs.Utf16Steps.{after}
use Rattle.kmn_import.proofs.utf16.unit_characters.Given as goal

abbrev pub invariant-loop-rest : goal.invariant-loop-rest
invariant-loop-rest l = after l.characters (unit_characters None l.rest) ≡ unit_characters None l.fn.units

abbrev pub decreases-loop-rest : goal.decreases-loop-rest
decreases-loop-rest l = length l.rest
