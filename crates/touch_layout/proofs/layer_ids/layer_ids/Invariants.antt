use Rattle.std.proofs.Common.{take, map}
use Rattle.touch_layout.specs.LayerIds.{FindsSame, layer_of}
use Rattle.touch_layout.specs.Layers.{layers_view}
use Rattle.touch_layout.proofs.layer_ids.layer_ids.Given as goal

abbrev pub invariant-loop-layer : goal.invariant-loop-layer
invariant-loop-layer l = FindsSame (map (λ id. layer_of id.0 id.1.now) l.ids.keys) (layers_view (take l.layer-index l.layers))
