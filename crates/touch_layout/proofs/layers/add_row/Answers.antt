use Rattle.std.proofs.Common.{arith}
use Rattle.std.proofs.lemmas.Grind.{common_steps}
use Rattle.touch_layout.proofs.layers.add_row.Goals as goal

pub returns-in-Err-Shape : goal.returns-in-Err-Shape
returns-in-Err-Shape c = grind (arith, common_steps)

pub loop-value-preserved : goal.loop-value-preserved
loop-value-preserved c = grind (arith, common_steps)

pub returns : goal.returns
returns c = grind (arith, common_steps)
