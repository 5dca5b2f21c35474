use Rattle.std.proofs.Common.{◌≡◌, drop}
use Rattle.core_constructs.specs.Spent.{spent_after}
use Rattle.core_constructs.proofs.spent.spent_after.Given as goal

abbrev pub invariant-loop-item : goal.invariant-loop-item
invariant-loop-item l = spent_after l.context (drop l.item-index l.items) l.left ≡ spent_after l.context l.items l.spent
