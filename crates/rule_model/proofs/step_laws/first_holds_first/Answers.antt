use Rattle.rule_model.proofs.Choosing.{first_is_first}
use Rattle.rule_model.proofs.step_laws.first_holds_first.Goals as goal

pub returns-clause-some : goal.returns-clause-some
returns-clause-some c = first_is_first
