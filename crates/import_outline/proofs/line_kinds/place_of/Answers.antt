use Rattle.std.proofs.Common.{arith}
use Rattle.std.proofs.lemmas.Grind.{common_steps}
use Rattle.import_outline.proofs.line_kinds.place_of.Goals as goal

pub returns-then-is_sign-clause-place : goal.returns-then-is_sign-clause-place
returns-then-is_sign-clause-place c = grind (arith, common_steps)

pub returns-then-is_sign-clause-within : goal.returns-then-is_sign-clause-within
returns-then-is_sign-clause-within c = grind (arith, common_steps)

pub loop-token-preserved : goal.loop-token-preserved
loop-token-preserved c = grind (arith, common_steps)

pub returns-clause-place : goal.returns-clause-place
returns-clause-place c = grind (arith, common_steps)

pub returns-clause-within : goal.returns-clause-within
returns-clause-within c = grind (arith, common_steps)
