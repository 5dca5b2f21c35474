use Rattle.std.proofs.Common.{arith}
use Rattle.std.proofs.lemmas.Grind.{common_steps}
use Rattle.rule_checker.proofs.Listed.{listed_next_rule}
use Rattle.rule_checker.proofs.listing.list_group.Goals as goal

pub loop-rule-preserved : goal.loop-rule-preserved
loop-rule-preserved c = λ more. grind (arith, common_steps, listed_next_rule, c.loop-rule.invariant more)
