use Rattle.std.proofs.Common.{arith}
use Rattle.std.proofs.lemmas.Grind.{common_steps}
use Rattle.kmx_verifier.proofs.items.names_outside.Goals as goal

pub returns-in-Enter : goal.returns-in-Enter
returns-in-Enter c = grind (arith, common_steps)

pub returns-in_default : goal.returns-in_default
returns-in_default c = grind (arith, common_steps)

pub returns-then-stores-from : goal.returns-then-stores-from
returns-then-stores-from c = grind (arith, common_steps)

pub returns-else-stores-from : goal.returns-else-stores-from
returns-else-stores-from c = grind (arith, common_steps)

pub returns-in-Any : goal.returns-in-Any
returns-in-Any c = grind (arith, common_steps)
