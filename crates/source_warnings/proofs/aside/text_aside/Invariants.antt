use Rattle.std.proofs.Common.{◌≡◌, ◌++◌, flat_map}
use Rattle.std.specs.List.{AllByRecursion}
use Rattle.kmn_lines.specs.Lines.{logicals}
use Rattle.kmn_lines.specs.Places.{IsPlaced}
use Rattle.kmn_lines.specs.Walks.{lines_left}
use Rattle.source_warnings.specs.Aside.{line_aside}
use Rattle.source_warnings.proofs.aside.text_aside.Given as goal

abbrev pub invariant-loop-logical : goal.invariant-loop-logical
invariant-loop-logical l = record {
  placed : AllByRecursion (IsPlaced l.source) (lines_left l.logical-iterator);
  words : l.words ++ flat_map (line_aside l.source) (lines_left l.logical-iterator) ≡ flat_map (line_aside l.source) (logicals l.source);
}
