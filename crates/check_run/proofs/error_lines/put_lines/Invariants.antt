use Rattle.std.proofs.Common.{◌≡◌, ◌++◌, drop}
use Rattle.std.specs.Prelude.{flat_map}
use Rattle.check_run.specs.Printed.{error_line}
use Rattle.check_run.proofs.error_lines.put_lines.Given as goal

abbrev pub invariant-loop-error : goal.invariant-loop-error
invariant-loop-error l =
    l.lines ++ flat_map (error_line l.file) (drop l.error-index l.errors) ≡ l.fn.lines ++ flat_map (error_line l.file) l.errors
