use Rattle.std.proofs.Common.{arith}
use Rattle.std.proofs.lemmas.Grind.{common_steps}
use Rattle.decompile_program.proofs.naming.Naming.store_name.Goals as goal

pub returns-then-not-written-clause-name : goal.returns-then-not-written-clause-name
returns-then-not-written-clause-name c = grind (arith, common_steps)

pub returns-then-not-written-clause-left : goal.returns-then-not-written-clause-left
returns-then-not-written-clause-left c = grind (arith, common_steps)

pub returns-then-not-written-clause-met : goal.returns-then-not-written-clause-met
returns-then-not-written-clause-met c = grind (arith, common_steps)

pub returns-then-store-ne0-clause-name : goal.returns-then-store-ne0-clause-name
returns-then-store-ne0-clause-name c = grind (arith, common_steps)

pub returns-then-store-ne0-clause-left : goal.returns-then-store-ne0-clause-left
returns-then-store-ne0-clause-left c = grind (arith, common_steps)

pub returns-then-store-ne0-clause-met : goal.returns-then-store-ne0-clause-met
returns-then-store-ne0-clause-met c = grind (arith, common_steps)

pub returns-clause-name : goal.returns-clause-name
returns-clause-name c = grind (arith, common_steps)

pub returns-clause-left : goal.returns-clause-left
returns-clause-left c = grind (arith, common_steps)

pub returns-clause-met : goal.returns-clause-met
returns-clause-met c = grind (arith, common_steps)
