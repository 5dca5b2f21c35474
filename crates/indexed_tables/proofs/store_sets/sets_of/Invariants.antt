use Rattle.std.proofs.Common.{take, map}
use Rattle.indexed_tables.specs.Numbers.{AreSetsOf}
use Rattle.indexed_tables.proofs.store_sets.sets_of.Given as goal

abbrev pub invariant-loop-store : goal.invariant-loop-store
invariant-loop-store l = AreSetsOf (take l.store-index l.stores) (map (λ set. set.keys) l.sets.items)
