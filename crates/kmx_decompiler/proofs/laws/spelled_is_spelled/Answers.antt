use Rattle.kmx_decompiler.proofs.Accepted.{program_is_spelled}
use Rattle.kmx_decompiler.proofs.laws.spelled_is_spelled.Goals as goal

pub returns : goal.returns
returns c = program_is_spelled
