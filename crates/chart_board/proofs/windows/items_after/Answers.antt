use Rattle.std.proofs.Common.{◌≡◌, [], drop, sym, ◌∙◌, ap, arith}
use Rattle.std.proofs.lemmas.List.{drop_all}
use Rattle.chart_board.specs.Cells.{items_after}
use Rattle.chart_board.proofs.Contexts.{after_next, none_after}
use Rattle.chart_board.proofs.windows.items_after.Goals as goal

pub loop-item-preserved : goal.loop-item-preserved
loop-item-preserved c = record {
  value = after_next c.args.count c.loop-item.left c.characters_left-left.result c.loop-item.item-index c.args.items.now _ c.loop-item-test.true
      (grind (arith, c.if-left-eq0.false)) c.characters_left-left.ensures c.loop-item.invariant.value;
  place = omega (arith, c.loop-item.invariant.place);
}

pub returns : goal.returns
returns c =
    let ended : drop c.loop-item.item-index c.args.items.now ≡ [] = drop_all c.loop-item.item-index c.args.items.now c.loop-item-test.false in
    sym (none_after c.loop-item.left) ∙ sym (ap (items_after c.loop-item.left) ended) ∙ c.loop-item.invariant.value
