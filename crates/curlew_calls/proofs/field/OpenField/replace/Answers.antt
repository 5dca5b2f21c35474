use Rattle.std.proofs.Common.{arith}
use Rattle.curlew_calls.proofs.Causes.{step_text_cause, not_characters, few_characters, edit_happens}
use Rattle.curlew_calls.proofs.field.OpenField.replace.Goals as goal

pub returns-in_default-clause-happens : goal.returns-in_default-clause-happens
returns-in_default-clause-happens c = grind (arith, step_text_cause, not_characters, few_characters, edit_happens)

pub returns-in_default-clause-leaves : goal.returns-in_default-clause-leaves
returns-in_default-clause-leaves c = grind (arith, step_text_cause, not_characters, few_characters, edit_happens)

pub returns-in_default-clause-few : goal.returns-in_default-clause-few
returns-in_default-clause-few c = grind (arith, step_text_cause, not_characters, few_characters, edit_happens)

pub returns-in_default-clause-characters : goal.returns-in_default-clause-characters
returns-in_default-clause-characters c = grind (arith, step_text_cause, not_characters, few_characters, edit_happens)

pub returns-in_default-clause-refused : goal.returns-in_default-clause-refused
returns-in_default-clause-refused c = grind (arith, step_text_cause, not_characters, few_characters, edit_happens)

pub returns-in_default-clause-unchanged : goal.returns-in_default-clause-unchanged
returns-in_default-clause-unchanged c = grind (arith, step_text_cause, not_characters, few_characters, edit_happens)

pub returns-clause-happens : goal.returns-clause-happens
returns-clause-happens c = grind (arith, step_text_cause, not_characters, few_characters, edit_happens)

pub returns-clause-leaves : goal.returns-clause-leaves
returns-clause-leaves c = grind (arith, step_text_cause, not_characters, few_characters, edit_happens)

pub returns-clause-few : goal.returns-clause-few
returns-clause-few c = grind (arith, step_text_cause, not_characters, few_characters, edit_happens)

pub returns-clause-characters : goal.returns-clause-characters
returns-clause-characters c = grind (arith, step_text_cause, not_characters, few_characters, edit_happens)

pub returns-clause-refused : goal.returns-clause-refused
returns-clause-refused c = grind (arith, step_text_cause, not_characters, few_characters, edit_happens)

pub returns-clause-unchanged : goal.returns-clause-unchanged
returns-clause-unchanged c = grind (arith, step_text_cause, not_characters, few_characters, edit_happens)
