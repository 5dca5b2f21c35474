use Rattle.std.proofs.Common.{◌≡◌, ◌++◌, drop}
use Rattle.serde_json.specs.View.{items_view}
use Rattle.touch_board.specs.Layers.{rows_height, rows_keys}
use Rattle.touch_board.proofs.layers.add_rows.Given as goal

abbrev pub invariant-loop-row : goal.invariant-loop-row
invariant-loop-row l = record {
  keys : l.keys ++ rows_keys l.names l.top (items_view (drop l.row-index l.row-items)) ≡ l.fn.keys ++ rows_keys l.names 0 (items_view l.row-items);
  height : rows_height l.top (items_view (drop l.row-index l.row-items)) ≡ rows_height 0 (items_view l.row-items);
}
