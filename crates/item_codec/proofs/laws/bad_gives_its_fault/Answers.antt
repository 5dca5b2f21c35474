use Rattle.item_codec.proofs.Results.{bad_gives_its_fault}
use Rattle.item_codec.proofs.laws.bad_gives_its_fault.Goals as goal

pub returns : goal.returns
returns c = bad_gives_its_fault
