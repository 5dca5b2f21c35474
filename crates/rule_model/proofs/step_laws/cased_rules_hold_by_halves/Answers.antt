use Rattle.rule_model.proofs.CasedKeys.{cased_rules_hold_by_halves}
use Rattle.rule_model.proofs.step_laws.cased_rules_hold_by_halves.Goals as goal

pub returns : goal.returns
returns c = cased_rules_hold_by_halves
