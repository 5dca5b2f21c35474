use Rattle.std.proofs.Common.{arith}
use Rattle.std.proofs.lemmas.Grind.{common_steps}
use Rattle.store_table.proofs.first.earlier.Goals as goal

pub returns-in-Some-Some : goal.returns-in-Some-Some
returns-in-Some-Some c = grind (arith, common_steps)

pub returns-in-Some-default : goal.returns-in-Some-default
returns-in-Some-default c = grind (arith, common_steps)

pub returns-in-None-default : goal.returns-in-None-default
returns-in-None-default c = grind (arith, common_steps)
