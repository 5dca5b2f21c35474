use Rattle.std.proofs.Common.{◌≡◌, ◌++◌, drop}
use Rattle.serde_json.specs.View.{items_view}
use Rattle.touch_board.specs.Layers.{platform_layers}
use Rattle.touch_board.proofs.layers.add_layers.Given as goal

abbrev pub invariant-loop-layer : goal.invariant-loop-layer
invariant-loop-layer l =
    l.layers ++ platform_layers l.names l.platform (items_view (drop l.layer-index l.layer-items)) ≡ l.fn.layers ++ platform_layers l.names l.platform (items_view l.layer-items)
