use Rattle.std.proofs.Common.{◌≡◌, ◌++◌}
use Rattle.std.specs.Prelude.{flat_map}
use Rattle.kmn_lines.specs.Walks.{lines_left}
use Rattle.import_lines.specs.declared.rewrite.WrittenLine.{WrittenLine}
use Rattle.kmn_import.specs.Import.{written_lines, line_changes, rewritten_source}
use Rattle.kmn_import.proofs.importing.rewritten_source.Given as goal

abbrev pub invariant-loop-logical : goal.invariant-loop-logical
invariant-loop-logical l = record {
  text : l.text ++ flat_map (λ (line : WrittenLine). line.bytes) (written_lines l.source l.groups.outline l.group (lines_left l.logical-iterator))
      ≡ (rewritten_source l.source).text;
  changes : l.changes ++ line_changes (lines_left l.logical-iterator) (written_lines l.source l.groups.outline l.group (lines_left l.logical-iterator))
      ≡ (rewritten_source l.source).changes;
}
