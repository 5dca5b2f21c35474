use Rattle.std.proofs.Common.{◌≡◌, ◌≤◌, ◌+◌, drop}
use Rattle.std.specs.Prelude.{count_by}
use Rattle.check_run.specs.Printed.{is_warned}
use Rattle.check_run.proofs.warning_lines.warning_count.Given as goal

abbrev pub invariant-loop-warning : goal.invariant-loop-warning
invariant-loop-warning l = record {
  count : l.count + count_by is_warned (drop l.warning-index l.warnings) ≡ count_by is_warned l.warnings;
  few : l.count ≤ l.warning-index;
}
