use Rattle.std.proofs.Common.{rules, arith}
use Rattle.rule_shadow.proofs.Sound.{context_fits}
use Rattle.rule_shadow.proofs.finder.covers_in.Goals as goal

pub returns-in_default : goal.returns-in_default
returns-in_default c = search rules

pub overflow_cast-number : goal.overflow_cast-number
overflow_cast-number c = grind (arith, context_fits)
