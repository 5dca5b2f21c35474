use Rattle.kmx_verifier.proofs.Looking as looking
use Rattle.kmx_verifier.proofs.laws.other_bytes_change_nothing.Goals as goal

pub returns : goal.returns
returns c = looking.other_bytes_change_nothing
