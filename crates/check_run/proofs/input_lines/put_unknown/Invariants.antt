use Rattle.std.proofs.Common.{◌≡◌, ◌++◌, drop}
use Rattle.std.specs.Prelude.{flat_map}
use Rattle.check_run.specs.Printed.{unknown_line}
use Rattle.check_run.proofs.input_lines.put_unknown.Given as goal

abbrev pub invariant-loop-option : goal.invariant-loop-option
invariant-loop-option l =
    l.text ++ flat_map (unknown_line l.keys) (drop l.option-index l.options) ≡ l.fn.text ++ flat_map (unknown_line l.keys) l.options
