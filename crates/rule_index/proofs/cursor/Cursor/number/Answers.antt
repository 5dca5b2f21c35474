use Rattle.std.proofs.Common.{arith}
use Rattle.std.proofs.lemmas.Grind.{common_steps}
use Rattle.rule_index.proofs.cursor.Cursor.number.Goals as goal

pub returns-in-Some-clause-small : goal.returns-in-Some-clause-small
returns-in-Some-clause-small c = grind (arith, common_steps)

pub returns-in-Some-clause-within : goal.returns-in-Some-clause-within
returns-in-Some-clause-within c = grind (arith, common_steps)

pub returns-in_default-clause-small : goal.returns-in_default-clause-small
returns-in_default-clause-small c = grind (arith, common_steps)

pub returns-in_default-clause-within : goal.returns-in_default-clause-within
returns-in_default-clause-within c = grind (arith, common_steps)

pub returns-in_default-2-clause-small : goal.returns-in_default-2-clause-small
returns-in_default-2-clause-small c = grind (arith, common_steps)

pub returns-in_default-2-clause-within : goal.returns-in_default-2-clause-within
returns-in_default-2-clause-within c = grind (arith, common_steps)
