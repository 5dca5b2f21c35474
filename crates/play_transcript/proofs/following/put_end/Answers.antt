use Rattle.std.proofs.Common.{arith}
use Rattle.play_transcript.proofs.PrintingLaws.{faults}
use Rattle.play_transcript.proofs.following.put_end.Goals as goal

pub returns-clause-counts : goal.returns-clause-counts
returns-clause-counts g c = grind (arith, faults)

pub returns-clause-told : goal.returns-clause-told
returns-clause-told g c = grind (arith, faults)

pub returns-clause-ends : goal.returns-clause-ends
returns-clause-ends g c = grind (arith, faults)

pub returns-clause-prints : goal.returns-clause-prints
returns-clause-prints g c = grind (arith, faults)
