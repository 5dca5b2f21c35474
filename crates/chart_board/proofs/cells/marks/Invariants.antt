use Rattle.std.proofs.Common.{◌≡◌, ◌++◌, drop}
use Rattle.chart_board.specs.Cells.{marks}
use Rattle.chart_board.proofs.cells.marks.Given as goal

abbrev pub invariant-loop-item : goal.invariant-loop-item
invariant-loop-item l = l.numbers ++ marks (drop l.item-index l.items) ≡ marks l.items
