use Rattle.std.proofs.Common.{rules, arith}
use Rattle.std.proofs.lemmas.Grind.{common_steps}
use Rattle.rule_shadow.proofs.finding.near_covers.Goals as goal

pub returns-then-not-is_at_most : goal.returns-then-not-is_at_most
returns-then-not-is_at_most c = search rules

pub overflow_cast-near : goal.overflow_cast-near
overflow_cast-near c = grind (arith, common_steps)
