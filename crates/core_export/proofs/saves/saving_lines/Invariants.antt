use Rattle.std.proofs.Common.{◌≡◌, drop, flat_map}
use Rattle.std.specs.List.{fold}
use Rattle.std.specs.Ordering.{nat_cmp}
use Rattle.std.specs.BTreeSet.{insert_key}
use Rattle.core_export.specs.Saves.{group_saving_lines, saving_lines}
use Rattle.core_export.proofs.saves.saving_lines.Given as goal

abbrev pub invariant-loop-group : goal.invariant-loop-group
invariant-loop-group l =
    fold (insert_key nat_cmp) l.lines (flat_map (group_saving_lines l.saving.items) (drop l.group-index l.groups))
    ≡ saving_lines l.groups
