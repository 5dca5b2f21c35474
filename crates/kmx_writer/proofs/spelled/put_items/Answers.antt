use Rattle.std.proofs.Common.{arith}
use Rattle.std.proofs.lemmas.Grind.{common_steps}
use Rattle.kmx_format.specs.FileUnits.{item_units}
use Rattle.kmx_writer.proofs.spelled.put_items.Goals as goal

pub loop-item-preserved : goal.loop-item-preserved
unfolding item_units
loop-item-preserved g c = grind (arith, common_steps)

pub returns : goal.returns
unfolding item_units
returns g c = grind (arith, common_steps)
