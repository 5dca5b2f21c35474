use Rattle.std.proofs.Common.{◌≡◌, drop}
use Rattle.serde_json.specs.View.{items_view}
use Rattle.touch_board.specs.Layers.{row_end}
use Rattle.touch_board.proofs.layers.row_end.Given as goal

abbrev pub invariant-loop-key : goal.invariant-loop-key
invariant-loop-key l =
    row_end l.place (items_view (drop l.key-index l.key-items)) ≡ row_end 0 (items_view l.key-items)
