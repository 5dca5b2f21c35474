use Rattle.std.proofs.Common.{arith}
use Rattle.curlew_calls.proofs.Causes.{step_cause, key_happens}
use Rattle.rule_model.specs.Event.{happening}
use Rattle.curlew_calls.proofs.field.OpenField.key.Goals as goal

pub returns-clause-happens : goal.returns-clause-happens
unfolding happening
returns-clause-happens c = grind (arith, step_cause, key_happens)

pub returns-clause-edit : goal.returns-clause-edit
unfolding happening
returns-clause-edit c = grind (arith, step_cause, key_happens)

pub returns-clause-leaves : goal.returns-clause-leaves
unfolding happening
returns-clause-leaves c = grind (arith, step_cause, key_happens)

pub returns-clause-refused : goal.returns-clause-refused
unfolding happening
returns-clause-refused c = grind (arith, step_cause, key_happens)

pub returns-clause-unchanged : goal.returns-clause-unchanged
unfolding happening
returns-clause-unchanged c = grind (arith, step_cause, key_happens)
