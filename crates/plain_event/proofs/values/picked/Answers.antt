use Rattle.std.proofs.Common.{arith}
use Rattle.std.proofs.lemmas.Grind.{common_steps}
use Rattle.plain_event.proofs.SpreadValues.{picked_ended}
use Rattle.plain_event.proofs.values.picked.Goals as goal

pub loop-n-preserved : goal.loop-n-preserved
loop-n-preserved g c = grind (arith, common_steps, picked_ended)

pub returns : goal.returns
returns g c = grind (arith, common_steps, picked_ended)
