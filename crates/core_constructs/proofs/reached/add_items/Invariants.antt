use Rattle.std.proofs.Common.{◌≡◌, drop, flat_map}
use Rattle.std.specs.List.{fold}
use Rattle.std.specs.Ordering.{nat_cmp}
use Rattle.std.specs.BTreeSet.{insert_key}
use Rattle.core_constructs.specs.Reached.{entered}
use Rattle.core_constructs.proofs.reached.add_items.Given as goal

abbrev pub invariant-loop-item : goal.invariant-loop-item
invariant-loop-item l = fold (insert_key nat_cmp) l.reached (flat_map entered (drop l.item-index l.items)) ≡ fold (insert_key nat_cmp) l.fn.reached (flat_map entered l.items)
