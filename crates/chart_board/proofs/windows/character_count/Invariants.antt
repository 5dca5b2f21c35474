use Rattle.std.proofs.Common.{◌≡◌, ◌+◌, ◌≤◌, drop, length}
use Rattle.kmn_base.specs.Lists.{characters}
use Rattle.chart_board.proofs.windows.character_count.Given as goal

abbrev pub invariant-loop-item : goal.invariant-loop-item
invariant-loop-item l = record {
  value : l.count + length (characters (drop l.item-index l.items)) ≡ length (characters l.items);
  few : l.count ≤ l.item-index;
}
