use Rattle.std.proofs.Common.{arith}
use Rattle.std.proofs.lemmas.Grind.{common_steps}
use Rattle.shadow_text.specs.Verdicts.{verdicts}
use Rattle.shadow_text.proofs.verdicts.verdicts.Goals as goal

pub loop-group-preserved : goal.loop-group-preserved
unfolding verdicts
loop-group-preserved c = grind (arith, common_steps)

pub returns : goal.returns
unfolding verdicts
returns c = grind (arith, common_steps)
