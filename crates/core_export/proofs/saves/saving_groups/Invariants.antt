use Rattle.std.proofs.Common.{◌≡◌}
use Rattle.core_export.specs.Saves.{saving_groups}
use Rattle.core_export.proofs.saves.saving_groups.Given as goal

abbrev pub invariant-loop-entry : goal.invariant-loop-entry
invariant-loop-entry l = l.saving.items ≡ saving_groups l._entry l.groups
