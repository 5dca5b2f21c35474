use Rattle.std.proofs.Common.{◌≡◌, drop, flat_map}
use Rattle.std.specs.List.{fold}
use Rattle.std.specs.Ordering.{nat_cmp}
use Rattle.std.specs.BTreeSet.{insert_key}
use Rattle.core_constructs.specs.Changes.{item_changes}
use Rattle.core_constructs.proofs.changes.add_items.Given as goal

abbrev pub invariant-loop-item : goal.invariant-loop-item
invariant-loop-item l = fold (insert_key nat_cmp) l.changes (flat_map (item_changes l.used) (drop l.item-index l.items)) ≡ fold (insert_key nat_cmp) l.fn.changes (flat_map (item_changes l.used) l.items)
