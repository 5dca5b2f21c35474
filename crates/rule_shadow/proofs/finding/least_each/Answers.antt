use Rattle.std.proofs.Common.{rules, arith}
use Rattle.std.proofs.lemmas.Grind.{common_steps}
use Rattle.rule_shadow.proofs.finding.least_each.Goals as goal

pub returns-in_err-push-in-Some-least_narrowed : goal.returns-in_err-push-in-Some-least_narrowed
returns-in_err-push-in-Some-least_narrowed c = search rules

pub returns-in-None : goal.returns-in-None
returns-in-None c = grind (arith, common_steps)

pub loop-element-preserved : goal.loop-element-preserved
loop-element-preserved c = grind (arith, common_steps)

pub returns : goal.returns
returns c = grind (arith, common_steps)
