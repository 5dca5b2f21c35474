use Rattle.std.proofs.Common.{arith}
use Rattle.std.proofs.lemmas.Grind.{common_steps}
use Rattle.store_table.proofs.Firsts.{first_kept, groups_step}
use Rattle.store_table.proofs.refusing.groups_refusal.Goals as goal

pub loop-group-preserved : goal.loop-group-preserved
loop-group-preserved c = grind (arith, first_kept, groups_step)

pub returns : goal.returns
returns c = grind (arith, common_steps)
