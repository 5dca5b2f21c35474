use Rattle.std.proofs.Common.{arith}
use Rattle.std.proofs.lemmas.Grind.{common_steps}
use Rattle.rule_index.proofs.contexts.counts.Goals as goal

pub loop-context-preserved : goal.loop-context-preserved
loop-context-preserved c = grind (arith, common_steps)

pub returns : goal.returns
returns c = grind (arith, common_steps)
