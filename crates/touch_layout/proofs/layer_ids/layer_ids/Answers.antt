use Rattle.std.proofs.Common.{arith, take, get_or}
use Rattle.std.proofs.lemmas.Grind.{common_steps}
use Rattle.touch_layout.specs.Layers.{layers_view}
use Rattle.touch_layout.proofs.FoundLayers.{finds_more, held, no_layer}
use Rattle.touch_layout.proofs.layer_ids.layer_ids.Goals as goal

pub loop-layer-preserved : goal.loop-layer-preserved
loop-layer-preserved c =
    let inside = c.loop-layer-test.true in
    finds_more c.args.layers.now c.loop-layer.layer-index (get_or c.args.layers.now c.loop-layer.layer-index no_layer) _
    (c.in_ok-add_id.ensures (layers_view (take c.loop-layer.layer-index c.args.layers.now)) c.loop-layer.invariant)
    (omega (arith, inside)) (held c.args.layers.now c.loop-layer.layer-index (omega (arith, inside)))

pub returns : goal.returns
returns c = λ key. grind (arith, common_steps, c.loop-layer.invariant key, c.loop-layer-test.false)
