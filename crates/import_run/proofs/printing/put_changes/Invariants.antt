use Rattle.std.proofs.Common.{◌≡◌, ◌++◌, drop}
use Rattle.std.specs.Prelude.{flat_map}
use Rattle.import_run.specs.Printed.{change_line}
use Rattle.import_run.proofs.printing.put_changes.Given as goal

abbrev pub invariant-loop-change : goal.invariant-loop-change
invariant-loop-change l =
    l.text ++ flat_map change_line (drop l.change-index l.changes) ≡ l.fn.text ++ flat_map change_line l.changes
