use Rattle.std.proofs.Common.{arith}
use Rattle.std.proofs.lemmas.Grind.{common_steps}
use Rattle.play_transcript.proofs.PrintingLaws.{faults, put_on, put_stops}
use Rattle.play_transcript.proofs.printing.put_all.Goals as goal

pub loop-rest-preserved : goal.loop-rest-preserved
loop-rest-preserved g c = grind (arith, faults, put_on, put_stops)

pub returns-clause-counts : goal.returns-clause-counts
returns-clause-counts g c = grind (arith, faults, put_on, put_stops)

pub returns-clause-told : goal.returns-clause-told
returns-clause-told g c = grind (arith, faults, put_on, put_stops)

pub returns-clause-prints : goal.returns-clause-prints
returns-clause-prints g c = grind (arith, common_steps)
