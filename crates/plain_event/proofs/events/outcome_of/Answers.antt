use Rattle.std.proofs.Common.{arith}
use Rattle.plain_event.proofs.ItemTexts.{length_characters}
use Rattle.rule_model.proofs.PlainLists.{common_prefix_bound}
use Rattle.plain_event.proofs.events.outcome_of.Goals as goal

pub returns : goal.returns
returns c = grind (arith, length_characters, common_prefix_bound)
