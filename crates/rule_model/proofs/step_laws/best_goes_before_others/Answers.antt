use Rattle.rule_model.proofs.Choosing.{best_is_best, one_is_best}
use Rattle.rule_model.proofs.step_laws.best_goes_before_others.Goals as goal

pub returns-clause-some : goal.returns-clause-some
returns-clause-some c = best_is_best

pub returns-clause-only : goal.returns-clause-only
returns-clause-only c = one_is_best
