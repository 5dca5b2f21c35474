use Rattle.std.proofs.Common.{◌≡◌, drop, flat_map}
use Rattle.std.specs.List.{fold}
use Rattle.std.specs.Ordering.{nat_cmp}
use Rattle.std.specs.BTreeSet.{insert_key}
use Rattle.core_constructs.specs.Marks.{group_items}
use Rattle.core_constructs.specs.Collected.{collected_of}
use Rattle.core_constructs.proofs.marks.add_groups.Given as goal

abbrev pub invariant-loop-group : goal.invariant-loop-group
invariant-loop-group l = fold (insert_key nat_cmp) l.set (flat_map (collected_of l.what l.stores) (flat_map group_items (drop l.group-index l.groups))) ≡ fold (insert_key nat_cmp) l.fn.set (flat_map (collected_of l.what l.stores) (flat_map group_items l.groups))
