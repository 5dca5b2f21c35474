use Rattle.item_codec.proofs.Results.{spelled_gives_its_items}
use Rattle.item_codec.proofs.laws.spelled_gives_its_items.Goals as goal

pub returns : goal.returns
returns c = spelled_gives_its_items
