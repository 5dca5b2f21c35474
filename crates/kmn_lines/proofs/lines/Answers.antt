use Rattle.std.proofs.Common.{arith}
use Rattle.kmn_lines.proofs.Placed.{lines_placed}
use Rattle.kmn_lines.specs.Lines.{logicals}
use Rattle.kmn_lines.proofs.lines.Goals as goal

pub invariant_of-result : goal.invariant_of-result
unfolding logicals
invariant_of-result c = grind (arith, lines_placed)

pub returns-clause-gives : goal.returns-clause-gives
unfolding logicals
returns-clause-gives c = grind (arith, lines_placed)

pub returns-clause-placed : goal.returns-clause-placed
unfolding logicals
returns-clause-placed c = grind (arith, lines_placed)
