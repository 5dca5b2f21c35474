use Rattle.std.proofs.Common.{arith}
use Rattle.std.proofs.lemmas.Grind.{common_steps}
use Rattle.store_table.proofs.Firsts.{first_kept, any_step}
use Rattle.store_table.proofs.refusing.begins_refusal.Goals as goal

pub loop-start-preserved : goal.loop-start-preserved
loop-start-preserved c = record {
  unicode = grind (arith, common_steps, any_step);
  ansi = grind (arith, common_steps, any_step);
  first = grind (arith, common_steps, first_kept, c.loop-start.invariant.first);
}
