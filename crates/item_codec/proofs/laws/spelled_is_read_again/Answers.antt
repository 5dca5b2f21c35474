use Rattle.item_codec.proofs.Results.{spelled_is_read_again}
use Rattle.item_codec.proofs.laws.spelled_is_read_again.Goals as goal

pub returns : goal.returns
returns c = spelled_is_read_again
