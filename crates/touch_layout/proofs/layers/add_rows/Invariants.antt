use Rattle.std.proofs.Common.{◌≡◌, ◌+◌, drop}
use Rattle.serde_json.specs.View.{items_view}
use Rattle.touch_layout.specs.Keys.{keys_view}
use Rattle.touch_layout.specs.Layers.{layer_rows}
use Rattle.touch_layout.proofs.layers.add_rows.Given as goal

abbrev pub invariant-loop-value : goal.invariant-loop-value
invariant-loop-value l =
    (layer_rows l.platform l.layer l.row (keys_view l.found.items) (items_view (drop l.value-index l.value-items))
    ≡ layer_rows l.platform l.layer 1 (keys_view l.initial.found.items) (items_view l.value-items)) × (l.row ≡ l.value-index + 1)
