use Rattle.std.proofs.Common.{◌≡◌, ◌++◌}
use Rattle.kmn_base.proofs.lines.LineSet.listed.Given as goal

abbrev pub invariant-loop-line : goal.invariant-loop-line
invariant-loop-line l = l.list ++ l.line-iterator ≡ l.self
