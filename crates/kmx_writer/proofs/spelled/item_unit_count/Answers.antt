use Rattle.std.proofs.Common.{arith}
use Rattle.std.proofs.lemmas.Grind.{common_steps}
use Rattle.kmx_format.specs.FileUnits.{item_units}
use Rattle.kmx_writer.proofs.spelled.item_unit_count.Goals as goal

pub overflow_add-count : goal.overflow_add-count
unfolding item_units
overflow_add-count g c = grind (arith, common_steps)

pub loop-item-preserved : goal.loop-item-preserved
unfolding item_units
loop-item-preserved g c = grind (arith, common_steps)

pub returns : goal.returns
unfolding item_units
returns g c = grind (arith, common_steps)
