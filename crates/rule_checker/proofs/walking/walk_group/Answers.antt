use Rattle.std.proofs.Common.{arith}
use Rattle.std.proofs.lemmas.Grind.{common_steps}
use Rattle.rule_checker.proofs.Walked.{walked_rule}
use Rattle.rule_checker.proofs.walking.walk_group.Goals as goal

pub loop-rule-preserved : goal.loop-rule-preserved
loop-rule-preserved c = λ more. grind (arith, common_steps, walked_rule, c.loop-rule.invariant more)
