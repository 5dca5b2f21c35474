use Rattle.item_codec.proofs.Results.{given_fault_is_bad}
use Rattle.item_codec.proofs.laws.given_fault_is_bad.Goals as goal

pub returns : goal.returns
returns c = given_fault_is_bad
