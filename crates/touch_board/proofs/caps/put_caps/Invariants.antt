use Rattle.std.proofs.Common.{◌≡◌, ◌++◌, drop}
use Rattle.serde_json.specs.View.{items_view}
use Rattle.touch_board.specs.Caps.{caps_behind}
use Rattle.touch_board.proofs.caps.put_caps.Given as goal

abbrev pub invariant-loop-key : goal.invariant-loop-key
invariant-loop-key l =
    l.text ++ caps_behind l.sign (items_view (drop l.key-index l.key-items)) ≡ l.fn.text ++ caps_behind l.sign (items_view l.key-items)
