use Rattle.kmn_items.proofs.ItemParts.{tokens_taken_up}
use Rattle.kmn_items.proofs.laws.tokens_are_taken_up.Goals as goal

pub returns : goal.returns
returns c = tokens_taken_up
