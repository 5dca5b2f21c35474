use Rattle.std.proofs.Common.{◌≡◌, ◌≤◌, ◌+◌, drop}
use Rattle.std.specs.Prelude.{count_by}
use Rattle.check_run.specs.Printed.{is_noted}
use Rattle.check_run.proofs.warning_lines.note_count.Given as goal

abbrev pub invariant-loop-warning : goal.invariant-loop-warning
invariant-loop-warning l = record {
  count : l.count + count_by is_noted (drop l.warning-index l.warnings) ≡ count_by is_noted l.warnings;
  few : l.count ≤ l.warning-index;
}
