use Rattle.std.proofs.Common.{◌≡◌, drop}
use Rattle.core_constructs.specs.Spent.{raised_by}
use Rattle.core_constructs.proofs.spent.raise.Given as goal

abbrev pub invariant-loop-item : goal.invariant-loop-item
invariant-loop-item l = raised_by l.spent (drop l.item-index l.items) l.units ≡ raised_by l.spent l.items l.fn.units
