use Rattle.std.proofs.Common.{arith}
use Rattle.std.proofs.lemmas.Grind.{common_steps}
use Rattle.store_table.proofs.ByAppearance.{next_rule}
use Rattle.store_table.proofs.appearing.add_group.Goals as goal

pub loop-rule-preserved : goal.loop-rule-preserved
loop-rule-preserved c = λ more. grind (arith, common_steps, next_rule, c.loop-rule.invariant more)
