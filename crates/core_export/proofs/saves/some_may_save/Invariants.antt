use Rattle.std.proofs.Common.{◌≡◌, drop}
use Rattle.std.specs.List.{list_any}
use Rattle.core_export.specs.Saves.{may_save}
use Rattle.core_export.proofs.saves.some_may_save.Given as goal

abbrev pub invariant-loop-output : goal.invariant-loop-output
invariant-loop-output l = list_any (may_save l.groups) (drop l.output-index l.outputs) ≡ list_any (may_save l.groups) l.outputs
