use Rattle.std.proofs.Common.{arith}
use Rattle.std.proofs.lemmas.Grind.{common_steps}
use Rattle.kmx_verifier.proofs.items.is_permitted.Goals as goal

pub returns-in-Store : goal.returns-in-Store
returns-in-Store c = grind (arith, common_steps)

pub returns-in-Context : goal.returns-in-Context
returns-in-Context c = grind (arith, common_steps)

pub returns-in-Output : goal.returns-in-Output
returns-in-Output c = grind (arith, common_steps)

pub returns-in-Match : goal.returns-in-Match
returns-in-Match c = grind (arith, common_steps)
