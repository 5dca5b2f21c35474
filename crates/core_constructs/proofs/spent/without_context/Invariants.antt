use Rattle.std.proofs.Common.{◌≡◌, ◌-◌, drop}
use Rattle.std.specs.Prelude.{sum_by}
use Rattle.core_constructs.specs.Spent.{least_width}
use Rattle.core_constructs.proofs.spent.without_context.Given as goal

abbrev pub invariant-loop-item : goal.invariant-loop-item
invariant-loop-item l = l.left - sum_by least_width (drop l.item-index l.context) ≡ l.units - sum_by least_width l.context
