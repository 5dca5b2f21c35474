use Rattle.kmx_decompiler.proofs.WrittenOut.{spelled_written_out}
use Rattle.kmx_decompiler.proofs.laws.spelled_can_be_written_out.Goals as goal

pub returns : goal.returns
returns c = spelled_written_out
