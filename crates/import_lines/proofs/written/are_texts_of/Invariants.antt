use Rattle.std.proofs.Common.{◌≡◌, length}
use Rattle.kmn_items.specs.TokenTexts.{with_texts}
use Rattle.import_lines.specs.Rewrites.{same_texts}
use Rattle.import_lines.proofs.written.are_texts_of.Given as goal

abbrev pub invariant-loop-left : goal.invariant-loop-left
invariant-loop-left l = same_texts l.left (with_texts l.text l.right) ≡ same_texts l.fn.wanted (with_texts l.text l.fn.found)

abbrev pub decreases-loop-left : goal.decreases-loop-left
decreases-loop-left l = length l.left
