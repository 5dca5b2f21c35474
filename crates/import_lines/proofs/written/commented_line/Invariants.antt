use Rattle.std.proofs.Common.{◌≡◌, ◌++◌}
use Rattle.kmn_lines.specs.Walks.{physical_lines_left}
use Rattle.import_lines.specs.Written.{commented_line}
use Rattle.import_lines.proofs.written.commented_line.Given as goal

abbrev pub invariant-loop-physical : goal.invariant-loop-physical
invariant-loop-physical l =
    l.text ++ commented_line l.source (physical_lines_left l.physical-iterator) ≡ commented_line l.source (physical_lines_left l.fn.walk)
