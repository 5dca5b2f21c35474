use Rattle.std.proofs.Common.{arith}
use Rattle.std.proofs.lemmas.Grind.{common_steps}
use Rattle.rule_matching.proofs.store_marks.mark_holders.Goals as goal

pub loop-holding-preserved : goal.loop-holding-preserved
loop-holding-preserved c = grind (arith, common_steps)

pub returns-clause-set : goal.returns-clause-set
returns-clause-set c = grind (arith, common_steps)
