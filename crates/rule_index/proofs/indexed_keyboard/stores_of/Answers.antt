use Rattle.std.proofs.Common.{rules}
use Rattle.rule_index.proofs.StoreIndexes.{one_listed}
use Rattle.rule_index.proofs.indexed_keyboard.stores_of.Goals as goal

pub loop-store-preserved : goal.loop-store-preserved
loop-store-preserved c =
    one_listed c.args.file.now.stores c.loop-store.store-iterator c.next.new.self c.in-Some.store c.loop-store.stores.items c.push.new.self.items _
    c.in-Some.ensures.steps (search rules) c.in_ok-push.ensures.items c.loop-store.invariant
