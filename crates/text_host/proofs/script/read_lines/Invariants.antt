use Rattle.std.proofs.Common.{◌≡◌, ◌+◌, ◌≤◌, length}
use Rattle.play_script.specs.Lines.{text_lines}
use Rattle.text_host.specs.HostEntries.{first_script, with_lines}
use Rattle.text_host.proofs.script.read_lines.Given as goal

abbrev pub decreases-loop-rest : goal.decreases-loop-rest
decreases-loop-rest l = length l.rest

abbrev pub invariant-loop-rest : goal.invariant-loop-rest
invariant-loop-rest l =
    (with_lines l.names l.line (text_lines l.rest) l.script ≡ with_lines l.names 1 (text_lines l.text) first_script)
    × (l.line + length l.rest ≤ 4194305)
