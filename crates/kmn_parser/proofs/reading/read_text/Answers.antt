use Rattle.std.proofs.Common.{arith}
use Rattle.kmn_parser.proofs.LineLemmas.{by_recursion, reads_on}
use Rattle.kmn_parser.proofs.reading.read_text.Goals as goal

pub loop-logical-preserved : goal.loop-logical-preserved
loop-logical-preserved c = grind (arith, by_recursion, reads_on)

pub returns-in-Some-refused : goal.returns-in-Some-refused
returns-in-Some-refused c = grind (arith, by_recursion, reads_on)

pub returns-in-None-refused : goal.returns-in-None-refused
returns-in-None-refused c = grind (arith, by_recursion, reads_on)
