use Rattle.item_codec.proofs.Results.{items_have_one_spelling}
use Rattle.item_codec.proofs.laws.items_have_one_spelling.Goals as goal

pub returns : goal.returns
returns c = items_have_one_spelling
