use Rattle.std.proofs.Common.{◌≡◌, map, take}
use Rattle.core_export.specs.Saves.{group_may_save}
use Rattle.core_export.proofs.saves.next_groups.Given as goal

abbrev pub invariant-loop-group : goal.invariant-loop-group
invariant-loop-group l = l.next.items ≡ map (group_may_save l.used) (take l.group-index l.groups)
