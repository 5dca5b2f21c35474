use Rattle.std.proofs.Common.{◌≡◌}
use Rattle.std.specs.List.{AllByRecursion}
use Rattle.kmn_lines.specs.Lines.{logicals}
use Rattle.kmn_lines.specs.Places.{IsPlaced}
use Rattle.kmn_lines.specs.Walks.{lines_left}
use Rattle.refusal_details.specs.Words.{text_among}
use Rattle.refusal_details.proofs.words.text_among.Given as goal

abbrev pub invariant-loop-logical : goal.invariant-loop-logical
invariant-loop-logical l = record {
  placed : AllByRecursion (IsPlaced l.source) (lines_left l.logical-iterator);
  rest :
      text_among l.source l.number l.code l.wrong (lines_left l.logical-iterator)
      ≡ text_among l.source l.number l.code l.wrong (logicals l.source);
}
