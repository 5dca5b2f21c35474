use Rattle.std.proofs.Common.{◌≡◌, ◌-◌, length}
use Rattle.kmn_lines.specs.Lines.{gather, physical_lines_at}
use Rattle.kmn_lines.specs.Walks.{lines_left}
use Rattle.kmn_lines.proofs.line_walk.LinesIterator.next.Given as goal

abbrev pub invariant-loop-self : goal.invariant-loop-self
invariant-loop-self l = gather l.begun (physical_lines_at l.self.line l.self.at l.self.bytes.now) ≡ lines_left l.initial.self

abbrev pub decreases-loop-self : goal.decreases-loop-self
decreases-loop-self l = length l.self.bytes.now - l.self.at
