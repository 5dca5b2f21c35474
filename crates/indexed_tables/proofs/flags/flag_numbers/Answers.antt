use Rattle.std.proofs.Common.{arith}
use Rattle.std.proofs.lemmas.Grind.{common_steps}
use Rattle.indexed_tables.proofs.OptionFlags.{numbers_more}
use Rattle.indexed_tables.proofs.flags.flag_numbers.Goals as goal

pub loop-n-preserved : goal.loop-n-preserved
loop-n-preserved c = grind (arith, common_steps, numbers_more)

pub returns : goal.returns
returns c = grind (arith, common_steps, numbers_more)
