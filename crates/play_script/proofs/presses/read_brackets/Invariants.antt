use Rattle.std.proofs.Common.{◌≡◌, length, Ok}
use Rattle.std.specs.List.{slice_split}
use Rattle.play_script.specs.Words.{is_closing}
use Rattle.play_script.specs.Entries.{brackets_found, with_found}
use Rattle.play_script.proofs.presses.read_brackets.Given as goal

abbrev pub decreases-loop-piece : goal.decreases-loop-piece
decreases-loop-piece l = length l.rest

abbrev pub invariant-loop-piece : goal.invariant-loop-piece
invariant-loop-piece l =
    with_found (Ok l.reader) (brackets_found l.dictionary l.line (slice_split is_closing l.rest))
    ≡ with_found (Ok l.fn.reader) (brackets_found l.dictionary l.line (slice_split is_closing l.text))
