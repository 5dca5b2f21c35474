use Rattle.std.proofs.Common.{◌≡◌, ◌≤◌, ◌+◌, drop}
use Rattle.import_run.specs.Printed.{changed_count}
use Rattle.import_run.proofs.printing.changed_count.Given as goal

abbrev pub invariant-loop-change : goal.invariant-loop-change
invariant-loop-change l = record {
  count : l.count + changed_count l.last (drop l.change-index l.changes) ≡ changed_count 0 l.changes;
  few : l.count ≤ l.change-index;
}
