use Rattle.std.proofs.Common.{◌≡◌, [], take, drop, map}
use Rattle.touch_layout.specs.LayerIds.{folded, layer_of}
use Rattle.touch_layout.specs.Layers.{layers_view}
use Rattle.touch_layout.specs.Layout.{layers_fault}
use Rattle.touch_layout.proofs.layer_ids.layers_fault.Given as goal

abbrev pub invariant-loop-layer : goal.invariant-loop-layer
invariant-loop-layer l = record {
  ids : map (λ id. layer_of id.0 id.1.items) l.ids.keys ≡ map folded (layers_view (take l.layer-index l.layers));
  first : layers_fault (layers_view (take l.layer-index l.layers)) (layers_view (drop l.layer-index l.layers)) ≡ layers_fault [] (layers_view l.layers);
}
