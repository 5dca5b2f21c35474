use Rattle.std.proofs.Common.{arith}
use Rattle.std.proofs.lemmas.Grind.{common_steps}
use Rattle.event_text.proofs.StandingTexts.{edit_deletes, edit_inserts}
use Rattle.rule_model.proofs.PlainLists.{common_prefix_bound}
use Rattle.event_text.proofs.standing.Standing.finish.Goals as goal

pub returns-clause-deleted : goal.returns-clause-deleted
returns-clause-deleted c = grind (arith, edit_deletes, edit_inserts, common_prefix_bound)

pub returns-clause-inserted : goal.returns-clause-inserted
returns-clause-inserted c = grind (arith, edit_deletes, edit_inserts, common_prefix_bound)

pub returns-clause-room : goal.returns-clause-room
returns-clause-room c = grind (arith, edit_deletes, edit_inserts, common_prefix_bound)

pub returns-clause-small : goal.returns-clause-small
returns-clause-small c = grind (arith, edit_deletes, edit_inserts, common_prefix_bound)

pub returns-clause-few : goal.returns-clause-few
returns-clause-few c = grind (arith, common_steps)
