use Rattle.std.proofs.Common.{◌≡◌, drop, flat_map}
use Rattle.std.specs.List.{fold}
use Rattle.std.specs.Ordering.{nat_cmp}
use Rattle.std.specs.BTreeSet.{insert_key}
use Rattle.core_constructs.specs.Collected.{collected_of}
use Rattle.core_constructs.proofs.marks.add_items.Given as goal

abbrev pub invariant-loop-item : goal.invariant-loop-item
invariant-loop-item l = fold (insert_key nat_cmp) l.set (flat_map (collected_of l.what l.stores) (drop l.item-index l.items)) ≡ fold (insert_key nat_cmp) l.fn.set (flat_map (collected_of l.what l.stores) l.items)
