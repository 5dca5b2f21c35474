use Rattle.std.proofs.Common.{◌≡◌, ◌++◌, drop}
use Rattle.std.specs.Prelude.{flat_map}
use Rattle.check_texts.specs.WarningTexts.{next_line}
use Rattle.check_texts.proofs.line_lists.put_more.Given as goal

abbrev pub invariant-loop-line : goal.invariant-loop-line
invariant-loop-line l =
    l.text ++ flat_map next_line (drop l.line-index l.lines) ≡ l.fn.text ++ flat_map next_line l.lines
