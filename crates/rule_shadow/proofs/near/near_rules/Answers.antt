use Rattle.std.proofs.Common.{arith}
use Rattle.std.proofs.lemmas.Grind.{common_steps}
use Rattle.rule_shadow.proofs.near.near_rules.Goals as goal

pub overflow_cast-n : goal.overflow_cast-n
overflow_cast-n c = grind (arith, common_steps)

pub loop-n-preserved : goal.loop-n-preserved
loop-n-preserved c = grind (arith, common_steps)

pub returns : goal.returns
returns c = grind (arith, common_steps)
