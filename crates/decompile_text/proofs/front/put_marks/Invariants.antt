use Rattle.std.proofs.Common.{◌≡◌, ◌+◌, ◌-◌}
use Rattle.decompile_text.specs.Pages.{with_text}
use Rattle.decompile_text.specs.Texts.{marks_text}
use Rattle.std.specs.List.{range_with_len}
use Rattle.decompile_text.proofs.front.put_marks.Given as goal

abbrev pub invariant-loop-before : goal.invariant-loop-before
invariant-loop-before l = with_text l.page (marks_text (range_with_len (l.before + 1) (l.greatest - l.before))) ≡ with_text l.initial.page (marks_text (range_with_len 1 l.greatest))
