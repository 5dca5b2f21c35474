use Rattle.std.proofs.Common.{◌≡◌, ◌≤◌, ◌+◌, drop}
use Rattle.std.specs.Prelude.{count_by}
use Rattle.core_export.specs.Saves.{may_save}
use Rattle.core_export.proofs.saves.saving_count.Given as goal

abbrev pub invariant-loop-output : goal.invariant-loop-output
invariant-loop-output l = record {
  count : l.count + count_by (may_save l.groups) (drop l.output-index l.outputs) ≡ count_by (may_save l.groups) l.outputs;
  few : l.count ≤ l.output-index;
}
