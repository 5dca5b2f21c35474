use Rattle.std.proofs.Common.{◌∙◌, arith}
use Rattle.rule_expand.proofs.RuleRecords.{plain_all}
use Rattle.std.proofs.lemmas.Grind.{common_steps}
use Rattle.rule_expand.proofs.groups.records_of.Goals as goal

pub returns : goal.returns
returns c = c.from_vec.ensures ∙ plain_all c.args.numbers.now c.args.rules.now c.loop-rule.rule-index c.loop-rule.records.items (omega arith) c.loop-rule.invariant

pub loop-rule-preserved : goal.loop-rule-preserved
loop-rule-preserved c = grind (arith, common_steps)
