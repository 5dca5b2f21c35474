use Rattle.std.proofs.Common.{◌≡◌, length}
use Rattle.refusal_details.specs.Letters.{is_near}
use Rattle.refusal_details.proofs.letters.is_near.Given as goal

abbrev pub invariant-loop-left : goal.invariant-loop-left
invariant-loop-left l = is_near l.left l.right ≡ is_near l.fn.one l.fn.other

abbrev pub decreases-loop-left : goal.decreases-loop-left
decreases-loop-left l = length l.left
