use Rattle.std.proofs.Common.{◌≡◌}
use Rattle.kmn_lines.specs.Walks.{physical_lines_left}
use Rattle.import_lines.specs.Written.{ends_joined}
use Rattle.import_lines.proofs.LineEnds.{joined_after}
use Rattle.import_lines.proofs.line_ends.ends_joined.Given as goal

abbrev pub invariant-loop-physical : goal.invariant-loop-physical
invariant-loop-physical l = joined_after l.joined (physical_lines_left l.physical-iterator) ≡ ends_joined (physical_lines_left l.fn.walk)
