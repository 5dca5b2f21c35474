use Rattle.std.proofs.Common.{arith, sym, ◌∙◌, get_or}
use Rattle.touch_layout.proofs.FoundLayers.{fault_here, fault_behind, held, ids_next, no_layer}
use Rattle.touch_layout.proofs.layer_ids.layers_fault.Goals as goal

pub returns-then-not-branch : goal.returns-then-not-branch
returns-then-not-branch c =
    let inside = c.loop-layer-test.true in
    sym (fault_here c.args.layers.now c.loop-layer.layer-index (get_or c.args.layers.now c.loop-layer.layer-index no_layer) _ _
    c.loop-layer.invariant.ids c.in_ok-add_layer.ensures.new (grind (arith, c.if-not-branch.true))
    (omega (arith, inside)) (held c.args.layers.now c.loop-layer.layer-index (omega (arith, inside))))
    ∙ c.loop-layer.invariant.first

pub loop-layer-preserved : goal.loop-layer-preserved
loop-layer-preserved c =
    let inside = c.loop-layer-test.true in
    record {
      ids = ids_next c.args.layers.now c.loop-layer.layer-index (get_or c.args.layers.now c.loop-layer.layer-index no_layer) _ _
          c.loop-layer.invariant.ids (c.in_ok-add_layer.ensures.added (grind (arith, c.if-not-branch.false)))
          (omega (arith, inside)) (held c.args.layers.now c.loop-layer.layer-index (omega (arith, inside)));
      first = fault_behind c.args.layers.now c.loop-layer.layer-index (get_or c.args.layers.now c.loop-layer.layer-index no_layer) _ _
          c.loop-layer.invariant.ids c.in_ok-add_layer.ensures.new (grind (arith, c.if-not-branch.false))
          (omega (arith, inside)) (held c.args.layers.now c.loop-layer.layer-index (omega (arith, inside)))
          ∙ c.loop-layer.invariant.first;
    }
