use Rattle.std.proofs.Common.{◌≡◌}
use Rattle.std.specs.List.{AllByRecursion, fold}
use Rattle.kmn_lines.specs.Lines.{logicals}
use Rattle.kmn_lines.specs.Places.{IsPlaced}
use Rattle.kmn_lines.specs.Walks.{lines_left}
use Rattle.source_faults.specs.Reading.{read_on, nothing_read}
use Rattle.source_faults.proofs.reading.read_all.Given as goal

abbrev pub invariant-loop-logical : goal.invariant-loop-logical
invariant-loop-logical l = record {
  placed : AllByRecursion (IsPlaced l.source) (lines_left l.logical-iterator);
  rest : fold (read_on l.source) l.found (lines_left l.logical-iterator) ≡ fold (read_on l.source) nothing_read (logicals l.source);
}
