use Rattle.std.proofs.Common.{◌≡◌, drop}
use Rattle.chart_board.specs.Cells.{items_after}
use Rattle.chart_board.proofs.windows.items_after.Given as goal

abbrev pub invariant-loop-item : goal.invariant-loop-item
invariant-loop-item l = record {
  value : items_after l.left (drop l.item-index l.items) ≡ items_after l.count l.items;
  place : l.place ≡ l.item-index;
}
