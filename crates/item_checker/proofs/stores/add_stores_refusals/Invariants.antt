use Rattle.std.proofs.Common.{◌≡◌, [], ◌++◌, take, drop}
use Rattle.store_table.specs.First.{all_of}
use Rattle.item_checker.specs.Items.{store_refusal}
use Rattle.item_checker.proofs.stores.add_stores_refusals.Given as goal

abbrev pub invariant-loop-store : goal.invariant-loop-store
invariant-loop-store l =
    l.refusals ++ all_of (store_refusal l.facts) (take l.store-index l.stores) (drop l.store-index l.stores)
    ≡ l.fn.refusals ++ all_of (store_refusal l.facts) [] l.stores
