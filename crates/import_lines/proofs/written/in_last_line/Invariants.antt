use Rattle.std.proofs.Common.{◌≡◌, ◌++◌}
use Rattle.kmn_lines.specs.Walks.{physical_lines_left}
use Rattle.import_lines.specs.Written.{in_last_line}
use Rattle.import_lines.proofs.LineEnds.{pending}
use Rattle.import_lines.proofs.written.in_last_line.Given as goal

abbrev pub invariant-loop-physical : goal.invariant-loop-physical
invariant-loop-physical l =
    l.line ++ in_last_line l.source l.text (pending l.last (physical_lines_left l.physical-iterator))
    ≡ in_last_line l.source l.text (physical_lines_left l.fn.walk)
