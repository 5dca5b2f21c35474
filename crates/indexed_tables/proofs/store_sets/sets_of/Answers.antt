use Rattle.indexed_tables.proofs.Sets.{sets_more}
use Rattle.indexed_tables.proofs.store_sets.sets_of.Goals as goal

pub loop-store-preserved : goal.loop-store-preserved
loop-store-preserved c =
    sets_more c.loop-store.sets.items c.push.new.self.items c.args.stores.now c.loop-store.store-index c.store-item.result c.as_slice.result.now c.in_ok-set.set
    c.loop-store-test.true c.loop-store.invariant c.store-item.is c.as_slice.ensures c.in_ok-set.ensures c.in_ok-push.ensures.items
