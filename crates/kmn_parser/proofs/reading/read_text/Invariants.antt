use Rattle.std.proofs.Common.{◌≡◌}
use Rattle.std.specs.List.{AllByRecursion}
use Rattle.kmn_lines.specs.Lines.{logicals}
use Rattle.kmn_lines.specs.Places.{IsPlaced}
use Rattle.kmn_lines.specs.Tokens.{tokens_refusal}
use Rattle.kmn_lines.specs.Walks.{lines_left}
use Rattle.kmn_parser.specs.declared.statement.LastGroup.TheVariants.{Missing}
use Rattle.kmn_parser.specs.Source.{read_lines, no_program}
use Rattle.kmn_parser.proofs.LineLemmas.{read_behind}
use Rattle.kmn_parser.proofs.reading.read_text.Given as goal

abbrev pub invariant-loop-logical : goal.invariant-loop-logical
invariant-loop-logical l = record {
  placed : AllByRecursion (IsPlaced l.source) (lines_left l.logical-iterator);
  whole : tokens_refusal l.source (lines_left l.logical-iterator) ≡ tokens_refusal l.source (logicals l.source);
  rest : read_behind l.source l.reading (lines_left l.logical-iterator) ≡ read_lines l.source Missing no_program (logicals l.source);
}
