use Rattle.std.proofs.Common.{arith}
use Rattle.std.proofs.lemmas.Grind.{common_steps}
use Rattle.kmn_outside.proofs.memory_folder.MemoryFolder.put.Goals as goal

pub returns-then-failed : goal.returns-then-failed
returns-then-failed c = grind (arith, common_steps)

pub returns-else-failed : goal.returns-else-failed
returns-else-failed c = grind (arith, common_steps)
