use Rattle.std.proofs.Common.{◌≡◌}
use Rattle.std.specs.List.{AllByRecursion}
use Rattle.kmn_lines.specs.Lines.{logicals}
use Rattle.kmn_lines.specs.Places.{IsPlaced}
use Rattle.kmn_lines.specs.Walks.{lines_left}
use Rattle.refusal_places.specs.Placed.{placed_among}
use Rattle.refusal_places.proofs.placing.placed_among.Given as goal

abbrev pub invariant-loop-logical : goal.invariant-loop-logical
invariant-loop-logical l = record {
  placed : AllByRecursion (IsPlaced l.source) (lines_left l.logical-iterator);
  rest : placed_among l.source l.refusal l.name (lines_left l.logical-iterator) ≡ placed_among l.source l.refusal l.name (logicals l.source);
}
