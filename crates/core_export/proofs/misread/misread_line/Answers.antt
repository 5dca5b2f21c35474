use Rattle.std.proofs.Common.{ℕ, List, ap, ◌∙◌}
use Rattle.std.specs.Prelude.{slice_get}
use Rattle.core_export.specs.Readable.{misread_lines, misread_line}
use Rattle.core_export.proofs.misread.misread_line.Goals as goal

pub returns : goal.returns
unfolding misread_line
returns c = c.first.ensures ∙ ap (λ (lines : List ℕ). slice_get lines 0) (c.in_ok-lines.ensures ∙ ap misread_lines c.as_slice.ensures)
