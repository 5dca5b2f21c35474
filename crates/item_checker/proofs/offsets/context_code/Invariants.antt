use Rattle.std.proofs.Common.{◌≡◌, [], drop, take}
use Rattle.item_checker.specs.Items.{context_code}
use Rattle.item_checker.proofs.offsets.context_code.Given as goal

abbrev pub invariant-loop-at : goal.invariant-loop-at
invariant-loop-at l = context_code (take l.at l.context) (drop l.at l.context) ≡ context_code [] l.context
