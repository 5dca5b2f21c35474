-- The positions of physical lines and logical lines in their source.
use Rattle.std.specs.Prelude.{ℕ, ◌+◌, ◌<◌, ◌≤◌, List, length, IfSome}
use Rattle.kmn_lines.specs.declared.line_state.LineState.{LineState}
use Rattle.kmn_lines.specs.declared.line_state.PhysicalLine.{PhysicalLine}
use Rattle.kmn_lines.specs.declared.logical.Logical.{Logical}

-- a physical line after a position that has a byte and ends within a length
pub record IsPhysicalLineWithin (from size : ℕ) (p : PhysicalLine) : Type 0 where
  pub begins : from ≤ p.from
  pub forward : p.from ≤ p.to
  pub ends : p.to ≤ p.next
  pub long : p.from < p.next
  pub within : p.next ≤ size

-- a logical line is within the source, and its number is at most what its position allows
pub record IsPlaced (source : List ℕ) (l : Logical) : Type 0 where
  pub forward : l.from ≤ l.to
  pub within : l.to ≤ length source
  pub counted : l.first_line ≤ l.from + 1
