use Rattle.std.proofs.Common.{arith}
use Rattle.std.proofs.lemmas.Grind.{common_steps}
use Rattle.touch_layout.proofs.layers.add_layers.Goals as goal

pub returns-in_err-add_layer : goal.returns-in_err-add_layer
returns-in_err-add_layer c = grind (arith, common_steps)

pub loop-value-preserved : goal.loop-value-preserved
loop-value-preserved c = grind (arith, common_steps)

pub returns : goal.returns
returns c = grind (arith, common_steps)
