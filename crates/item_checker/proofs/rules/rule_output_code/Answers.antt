use Rattle.std.proofs.Common.{◌∙◌}
use Rattle.item_checker.proofs.OtherOutputs.{in_rules}
use Rattle.item_checker.proofs.rules.rule_output_code.Goals as goal

pub returns-in_default : goal.returns-in_default
returns-in_default c =
    c.output_code.ensures ∙ in_rules c.args.facts.now c.args.rule.now c.args.item.now c.in_default.not-Index c.in_default.not-ContextAt
