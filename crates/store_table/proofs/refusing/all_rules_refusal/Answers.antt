use Rattle.std.proofs.Common.{arith}
use Rattle.std.proofs.lemmas.Grind.{common_steps}
use Rattle.store_table.proofs.Firsts.{first_kept}
use Rattle.store_table.proofs.refusing.all_rules_refusal.Goals as goal

pub loop-group-preserved : goal.loop-group-preserved
loop-group-preserved c = grind (arith, first_kept)

pub returns : goal.returns
returns c = grind (arith, common_steps)
