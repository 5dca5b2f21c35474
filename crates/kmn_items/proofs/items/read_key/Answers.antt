use Rattle.std.proofs.Common.{arith}
use Rattle.kmn_items.proofs.ItemLemmas.{last_item_push}
use Rattle.kmn_items.proofs.items.read_key.Goals as goal

pub returns : goal.returns
returns c = grind (arith, last_item_push)
