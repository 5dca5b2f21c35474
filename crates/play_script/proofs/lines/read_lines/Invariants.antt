use Rattle.std.proofs.Common.{◌≡◌, ◌+◌, ◌≤◌, length, Ok}
use Rattle.play_script.specs.Lines.{text_lines}
use Rattle.play_script.specs.Entries.{first_script, lines_found, with_found}
use Rattle.play_script.proofs.lines.read_lines.Given as goal

abbrev pub decreases-loop-rest : goal.decreases-loop-rest
decreases-loop-rest l = length l.rest

abbrev pub invariant-loop-rest : goal.invariant-loop-rest
invariant-loop-rest l =
    (with_found (Ok l.reader) (lines_found l.dictionary l.line (text_lines l.rest)) ≡ with_found (Ok first_script) (lines_found l.dictionary 1 (text_lines l.text)))
    × (l.line + length l.rest ≤ 4194305)
