use Rattle.std.proofs.Common.{◌≡◌, [], ◌++◌, take, drop}
use Rattle.store_table.specs.First.{all_of}
use Rattle.store_table.specs.Names.{store_names, store_refusal}
use Rattle.store_table.proofs.listing.add_stores_refusals.Given as goal

abbrev pub invariant-loop-store : goal.invariant-loop-store
invariant-loop-store l = record {
  before : l.before ≡ store_names (take l.store-index l.stores);
  refusals : l.refusals ++ all_of (store_refusal l.stated) (take l.store-index l.stores) (drop l.store-index l.stores) ≡ l.fn.refusals ++ all_of (store_refusal l.stated) [] l.stores;
}
