use Rattle.std.proofs.Common.{◌≡◌, [], ◌++◌, take, drop}
use Rattle.store_table.specs.Names.{store_names}
use Rattle.source_names.specs.Causes.{each_of, store_faults}
use Rattle.source_names.proofs.listing.add_stores.Given as goal

abbrev pub invariant-loop-store : goal.invariant-loop-store
invariant-loop-store l = record {
  before : l.before ≡ store_names (take l.store-index l.statements);
  causes : l.causes.items ++ each_of (store_faults l.stores) (take l.store-index l.statements) (drop l.store-index l.statements) ≡ l.fn.causes.items ++ each_of (store_faults l.stores) [] l.statements;
}
