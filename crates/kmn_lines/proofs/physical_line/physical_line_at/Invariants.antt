use Rattle.std.proofs.Common.{◌≡◌, ◌-◌, ◌≤◌, length, drop}
use Rattle.kmn_lines.specs.Lines.{physical_lines, physical_lines_at}
use Rattle.kmn_lines.proofs.LineStates.{IsBetween}
use Rattle.kmn_lines.proofs.physical_line.physical_line_at.Given as goal

abbrev pub invariant-loop-at : goal.invariant-loop-at
invariant-loop-at l =
    (l.from ≤ l.at) × (l.at ≤ length l.bytes) × IsBetween l.from l.at l.state
    × (physical_lines l.line l.from l.state l.at (drop l.at l.bytes) ≡ physical_lines_at l.line l.from l.bytes)

abbrev pub decreases-loop-at : goal.decreases-loop-at
decreases-loop-at l = length l.bytes - l.at
