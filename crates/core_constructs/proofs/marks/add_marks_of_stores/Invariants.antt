use Rattle.std.proofs.Common.{◌≡◌, drop, flat_map}
use Rattle.std.specs.List.{fold}
use Rattle.std.specs.Ordering.{nat_cmp}
use Rattle.std.specs.BTreeSet.{insert_key}
use Rattle.core_constructs.specs.Marks.{store_marks}
use Rattle.core_constructs.proofs.marks.add_marks_of_stores.Given as goal

abbrev pub invariant-loop-store : goal.invariant-loop-store
invariant-loop-store l = fold (insert_key nat_cmp) l.marks (flat_map (store_marks l.tables.stores) (drop l.store-index l.stores)) ≡ fold (insert_key nat_cmp) l.fn.marks (flat_map (store_marks l.tables.stores) l.stores)
