use Rattle.std.proofs.Common.{◌≡◌, [], take, drop}
use Rattle.store_table.specs.First.{earlier, first_of}
use Rattle.item_checker.specs.Items.{store_refusal}
use Rattle.item_checker.proofs.stores.stores_refusal.Given as goal

abbrev pub invariant-loop-store : goal.invariant-loop-store
invariant-loop-store l =
    earlier l.first (first_of (store_refusal l.facts) (take l.store-index l.stores) (drop l.store-index l.stores))
    ≡ first_of (store_refusal l.facts) [] l.stores
