use Rattle.std.proofs.Common.{arith}
use Rattle.std.proofs.lemmas.Grind.{common_steps}
use Rattle.item_codec.proofs.Operands.{operands_stand, operands_end}
use Rattle.item_codec.proofs.codes.behind_code_of_three.Goals as goal

pub returns-in_err-item_of_three : goal.returns-in_err-item_of_three
returns-in_err-item_of_three c = grind (arith, common_steps)

pub returns-in_default : goal.returns-in_default
returns-in_default c = grind (arith, operands_stand, operands_end)

pub returns : goal.returns
returns c = grind (arith, operands_stand, operands_end)

pub returns-in_default-first_two_units : goal.returns-in_default-first_two_units
returns-in_default-first_two_units c = grind (arith, common_steps)

pub returns-then-first-eq0 : goal.returns-then-first-eq0
returns-then-first-eq0 c = grind (arith, common_steps)
