use Rattle.std.proofs.Common.{arith}
use Rattle.std.proofs.lemmas.Grind.{common_steps}
use Rattle.decompile_program.proofs.all_names.free_stores.Goals as goal

pub returns : goal.returns
returns c = grind (arith, common_steps)
