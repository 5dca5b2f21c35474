use Rattle.std.proofs.Common.{arith}
use Rattle.std.proofs.lemmas.Grind.{common_steps}
use Rattle.rule_model.proofs.PlainLists.{common_prefix_ended, common_prefix_other_ended}
use Rattle.rule_model.proofs.texts.common_prefix.Goals as goal

pub returns-else-count-new : goal.returns-else-count-new
returns-else-count-new c = grind (arith, common_prefix_ended, common_prefix_other_ended)

pub returns-after-loop-count : goal.returns-after-loop-count
returns-after-loop-count c = grind (arith, common_prefix_ended, common_prefix_other_ended)

pub loop-count-preserved : goal.loop-count-preserved
loop-count-preserved c = grind (arith, common_steps)

pub returns-else-old-count : goal.returns-else-old-count
returns-else-old-count c = grind (arith, common_steps)
