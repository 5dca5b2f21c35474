use Rattle.std.proofs.Common.{◌≡◌, ◌++◌, drop}
use Rattle.std.specs.Prelude.{flat_map}
use Rattle.check_run.specs.Printed.{warning_line}
use Rattle.check_run.proofs.warning_lines.put_warnings.Given as goal

abbrev pub invariant-loop-warning : goal.invariant-loop-warning
invariant-loop-warning l =
    l.text ++ flat_map (warning_line l.file) (drop l.warning-index l.warnings) ≡ l.fn.text ++ flat_map (warning_line l.file) l.warnings
