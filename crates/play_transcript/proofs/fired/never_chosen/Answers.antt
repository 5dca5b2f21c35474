use Rattle.std.proofs.Common.{arith}
use Rattle.std.proofs.lemmas.Grind.{common_steps}
use Rattle.play_transcript.proofs.fired.never_chosen.Goals as goal

pub loop-hit-preserved : goal.loop-hit-preserved
loop-hit-preserved c = grind (arith, common_steps)

pub returns : goal.returns
returns c = grind (arith, common_steps)
