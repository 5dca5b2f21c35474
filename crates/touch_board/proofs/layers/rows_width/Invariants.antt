use Rattle.std.proofs.Common.{◌≡◌, drop}
use Rattle.serde_json.specs.View.{items_view}
use Rattle.touch_board.specs.Layers.{rows_width}
use Rattle.touch_board.proofs.layers.rows_width.Given as goal

abbrev pub invariant-loop-row : goal.invariant-loop-row
invariant-loop-row l =
    rows_width l.width (items_view (drop l.row-index l.row-items)) ≡ rows_width 0 (items_view l.row-items)
