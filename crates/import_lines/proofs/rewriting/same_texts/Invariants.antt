use Rattle.std.proofs.Common.{◌≡◌, length}
use Rattle.import_lines.specs.Rewrites.{same_texts}
use Rattle.import_lines.proofs.rewriting.same_texts.Given as goal

abbrev pub invariant-loop-left : goal.invariant-loop-left
invariant-loop-left l = same_texts l.left l.right ≡ same_texts l.fn.old l.fn.new

abbrev pub decreases-loop-left : goal.decreases-loop-left
decreases-loop-left l = length l.left
