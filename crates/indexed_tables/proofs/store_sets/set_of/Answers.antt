use Rattle.kmn_base.specs.declared.items.Element.TheVariants as element
use Rattle.indexed_tables.proofs.Sets.{items_more}
use Rattle.indexed_tables.proofs.store_sets.set_of.Goals as goal

pub loop-element-preserved : goal.loop-element-preserved
loop-element-preserved c =
    items_more c.loop-element.set.keys c.add_item.new.set.keys c.args.elements.now c.loop-element.element-index (element.Char 0) c.loop-element-test.true c.loop-element.invariant
    c.in_ok-add_item.ensures
