use Rattle.std.proofs.Common.{◌≡◌, ◌++◌, drop}
use Rattle.serde_json.specs.View.{items_view}
use Rattle.touch_board.specs.Layers.{row_keys}
use Rattle.touch_board.proofs.layers.add_row.Given as goal

abbrev pub invariant-loop-key : goal.invariant-loop-key
invariant-loop-key l =
    l.keys ++ row_keys l.names l.top l.place (items_view (drop l.key-index l.key-items)) ≡ l.fn.keys ++ row_keys l.names l.top 0 (items_view l.key-items)
