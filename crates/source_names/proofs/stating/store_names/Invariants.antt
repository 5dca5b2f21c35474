use Rattle.std.proofs.Common.{◌≡◌, take}
use Rattle.store_table.specs.Names.{store_names}
use Rattle.source_names.proofs.stating.store_names.Given as goal

abbrev pub invariant-loop-store : goal.invariant-loop-store
invariant-loop-store l = l.names ≡ store_names (take l.store-index l.stores)
