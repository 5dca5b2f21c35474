use Rattle.std.proofs.Common.{◌≡◌, ◌++◌, drop}
use Rattle.option_store.proofs.options.Options.copy.Given as goal

abbrev pub invariant-loop-cell : goal.invariant-loop-cell
invariant-loop-cell l = l.cells.items ++ drop l.cell-index l.cell-items ≡ l.cell-items
