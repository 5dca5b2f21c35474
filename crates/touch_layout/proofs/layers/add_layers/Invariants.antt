use Rattle.std.proofs.Common.{◌≡◌, ◌+◌, drop}
use Rattle.serde_json.specs.View.{items_view}
use Rattle.touch_layout.specs.Layers.{platform_layers, layout_view}
use Rattle.touch_layout.proofs.layers.add_layers.Given as goal

abbrev pub invariant-loop-value : goal.invariant-loop-value
invariant-loop-value l =
    (platform_layers l.platform l.layer (layout_view l.found.layers.items l.found.keys.items) (items_view (drop l.value-index l.value-items))
    ≡ platform_layers l.platform 1 (layout_view l.initial.found.layers.items l.initial.found.keys.items) (items_view l.value-items)) × (l.layer ≡ l.value-index + 1)
