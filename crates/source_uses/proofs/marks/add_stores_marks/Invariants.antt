use Rattle.std.proofs.Common.{◌≡◌, ◌++◌, flat_map, take}
use Rattle.source_uses.specs.Marks.{store_marks}
use Rattle.source_uses.proofs.marks.add_stores_marks.Given as goal

abbrev pub invariant-loop-store : goal.invariant-loop-store
invariant-loop-store l = l.uses.items ≡ l.fn.uses.items ++ flat_map (store_marks l.contents) (take l.store-index l.stores)
