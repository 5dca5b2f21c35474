use Rattle.std.proofs.Common.{arith}
use Rattle.std.proofs.lemmas.Grind.{common_steps}
use Rattle.decompile_program.proofs.FlagLaws.{with_groups}
use Rattle.decompile_program.proofs.used.mark_groups.Goals as goal

pub loop-group-preserved : goal.loop-group-preserved
loop-group-preserved c = grind (arith, common_steps, with_groups)
