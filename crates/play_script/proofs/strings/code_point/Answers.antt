use Rattle.std.proofs.Common.{arith}
use Rattle.std.proofs.lemmas.Grind.{common_steps}
use Rattle.play_script.proofs.strings.code_point.Goals as goal

pub returns-in_default : goal.returns-in_default
returns-in_default c = grind (arith, common_steps)

pub returns-then-has_digits : goal.returns-then-has_digits
returns-then-has_digits c = grind (arith, common_steps)

pub returns-else-u-eq85 : goal.returns-else-u-eq85
returns-else-u-eq85 c = grind (arith, common_steps)
