use Rattle.std.proofs.Common.{arith}
use Rattle.play_transcript.proofs.PrintingLaws.{faults}
use Rattle.play_transcript.proofs.host_lines.put_line.Goals as goal

pub returns-clause-counts : goal.returns-clause-counts
returns-clause-counts g c = grind (arith, faults)

pub returns-clause-told : goal.returns-clause-told
returns-clause-told g c = grind (arith, faults)

pub returns-clause-prints : goal.returns-clause-prints
returns-clause-prints g c = grind (arith, faults)
