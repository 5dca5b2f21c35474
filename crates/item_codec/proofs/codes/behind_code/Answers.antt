use Rattle.std.proofs.Common.{arith}
use Rattle.std.proofs.lemmas.Grind.{common_steps}
use Rattle.item_codec.proofs.codes.behind_code.Goals as goal

pub returns-in-Some-eq1 : goal.returns-in-Some-eq1
returns-in-Some-eq1 c = grind (arith, common_steps)

pub returns-in-Some-eq2 : goal.returns-in-Some-eq2
returns-in-Some-eq2 c = grind (arith, common_steps)

pub returns-in-Some : goal.returns-in-Some
returns-in-Some c = grind (arith, common_steps)
