use Rattle.std.proofs.Common.{◌≡◌, ◌+◌, drop}
use Rattle.serde_json.specs.View.{items_view}
use Rattle.touch_layout.specs.Keys.{keys_view}
use Rattle.touch_layout.specs.Layers.{row_keys}
use Rattle.touch_layout.proofs.layers.add_row.Given as goal

abbrev pub invariant-loop-value : goal.invariant-loop-value
invariant-loop-value l =
    (row_keys l.platform l.layer l.row l.key (keys_view l.found.items) (items_view (drop l.value-index l.value-items))
    ≡ row_keys l.platform l.layer l.row 1 (keys_view l.initial.found.items) (items_view l.value-items)) × (l.key ≡ l.value-index + 1)
