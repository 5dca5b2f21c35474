use Rattle.std.proofs.Common.{arith, rules}
use Rattle.std.proofs.lemmas.Grind.{common_steps}
use Rattle.rule_model.specs.Event.{happening}
use Rattle.plain_event.proofs.events.traced_event.Goals as goal

pub returns-in-Key-clause-step : goal.returns-in-Key-clause-step
unfolding happening
returns-in-Key-clause-step c = grind (arith, common_steps)

pub returns-in-Key-clause-lines : goal.returns-in-Key-clause-lines
unfolding happening
returns-in-Key-clause-lines c = grind (arith, common_steps)

pub returns-in-Setting-clause-step : goal.returns-in-Setting-clause-step
unfolding happening
returns-in-Setting-clause-step c = grind (arith, common_steps)

pub returns-in-Setting-clause-lines : goal.returns-in-Setting-clause-lines
unfolding happening
returns-in-Setting-clause-lines c = grind (arith, common_steps)

pub returns-in-Caret-clause-lines : goal.returns-in-Caret-clause-lines
unfolding happening
returns-in-Caret-clause-lines c = grind (arith, common_steps)

pub returns-clause-lines : goal.returns-clause-lines
unfolding happening
returns-clause-lines c = grind (arith, common_steps)

pub returns-in-Caret-clause-step : goal.returns-in-Caret-clause-step
unfolding happening
returns-in-Caret-clause-step c = search rules

pub returns-clause-step : goal.returns-clause-step
unfolding happening
returns-clause-step c = search rules
