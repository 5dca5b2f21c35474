use Rattle.std.proofs.Common.{◌≡◌, map}
use Rattle.std.specs.Prelude.{fold}
use Rattle.kmn_lines.specs.Walks.{lines_left}
use Rattle.import_tokens.specs.Scan.{tokens_of}
use Rattle.import_outline.specs.Outline.{with_line, source_outline}
use Rattle.import_outline.proofs.whole_source.source_outline.Given as goal

abbrev pub invariant-loop-logical : goal.invariant-loop-logical
invariant-loop-logical l = fold with_line l.outline (map (tokens_of l.source) (lines_left l.logical-iterator)) ≡ source_outline l.source
