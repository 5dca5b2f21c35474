use Rattle.std.proofs.Common.{◌≡◌, drop, flat_map}
use Rattle.std.specs.List.{fold}
use Rattle.std.specs.Ordering.{nat_cmp}
use Rattle.std.specs.BTreeSet.{insert_key}
use Rattle.core_export.specs.Readable.{group_changed, changed_stores}
use Rattle.core_export.proofs.nameless.changed_stores.Given as goal

abbrev pub invariant-loop-group : goal.invariant-loop-group
invariant-loop-group l =
    fold (insert_key nat_cmp) l.stores (flat_map (group_changed l.way) (drop l.group-index l.groups))
    ≡ changed_stores l.way l.groups
