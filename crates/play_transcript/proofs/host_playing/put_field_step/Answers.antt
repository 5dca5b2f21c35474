use Rattle.std.proofs.Common.{arith}
use Rattle.play_transcript.proofs.PrintingLaws.{faults, nothing_put}
use Rattle.play_transcript.proofs.host_playing.put_field_step.Goals as goal

pub returns-in_default-clause-counts : goal.returns-in_default-clause-counts
returns-in_default-clause-counts g c = grind (arith, faults, nothing_put)

pub returns-in_default-clause-told : goal.returns-in_default-clause-told
returns-in_default-clause-told g c = grind (arith, faults, nothing_put)

pub returns-in_default-clause-prints : goal.returns-in_default-clause-prints
returns-in_default-clause-prints g c = grind (arith, faults, nothing_put)

pub returns-clause-counts : goal.returns-clause-counts
returns-clause-counts g c = grind (arith, faults, nothing_put)

pub returns-clause-told : goal.returns-clause-told
returns-clause-told g c = grind (arith, faults, nothing_put)

pub returns-clause-prints : goal.returns-clause-prints
returns-clause-prints g c = grind (arith, faults, nothing_put)
