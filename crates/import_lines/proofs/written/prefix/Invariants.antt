use Rattle.std.proofs.Common.{◌≡◌}
use Rattle.kmn_lines.specs.Walks.{physical_lines_left}
use Rattle.import_lines.specs.Written.{prefix}
use Rattle.import_lines.proofs.written.prefix.Given as goal

abbrev pub invariant-loop-physical : goal.invariant-loop-physical
invariant-loop-physical l = prefix l.source (physical_lines_left l.physical-iterator) ≡ prefix l.source (physical_lines_left l.fn.walk)
