use Rattle.std.proofs.Common.{◌≡◌, ◌++◌}
use Rattle.kmn_lines.specs.Walks.{physical_lines_left}
use Rattle.source_warnings.specs.Aside.{physical_words}
use Rattle.source_warnings.proofs.aside.add_physical.Given as goal

abbrev pub invariant-loop-physical : goal.invariant-loop-physical
invariant-loop-physical l =
    l.words ++ physical_words l.source (physical_lines_left l.physical-iterator) ≡ l.fn.words ++ physical_words l.source (physical_lines_left l.fn.walk)
