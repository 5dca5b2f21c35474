use Rattle.std.proofs.Common.{arith}
use Rattle.std.proofs.lemmas.Grind.{common_steps}
use Rattle.kmx_decompiler.proofs.ValueSets.{with_groups}
use Rattle.kmx_decompiler.proofs.values.values_of.Goals as goal

pub loop-group-preserved : goal.loop-group-preserved
loop-group-preserved c = grind (arith, common_steps, with_groups)
