use Rattle.rule_model.proofs.Edits.{press_edits_the_text}
use Rattle.rule_model.proofs.step_laws.edits_give_the_text.Goals as goal

pub returns-clause-press : goal.returns-clause-press
returns-clause-press c = press_edits_the_text
