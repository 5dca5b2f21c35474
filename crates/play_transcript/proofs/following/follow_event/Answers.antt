use Rattle.rule_trace.specs.Coverage.{hit_lines}
use Rattle.play_transcript.proofs.TraceLaws.{step_is_covered}
use Rattle.std.proofs.Common.{arith}
use Rattle.play_transcript.proofs.PrintingLaws.{faults}
use Rattle.play_transcript.proofs.following.follow_event.Goals as goal

pub add-requires : goal.add-requires
add-requires g c =
    step_is_covered c.args.traced.now.session c.step.new.self c.args.event.now c.chosen-in-Ok.result.now (hit_lines c.args.traced.now.coverage) c.requires.covers c.in-Ok.ensures.leaves c.chosen-in-Ok.ensures.value

pub overflow_add-result : goal.overflow_add-result
overflow_add-result g c = grind (arith, faults)

pub returns-in_ok-put_fired-in-Ok-clause-counts : goal.returns-in_ok-put_fired-in-Ok-clause-counts
returns-in_ok-put_fired-in-Ok-clause-counts g c = grind (arith, faults)

pub returns-in_ok-put_fired-in-Ok-clause-told : goal.returns-in_ok-put_fired-in-Ok-clause-told
returns-in_ok-put_fired-in-Ok-clause-told g c = grind (arith, faults)

pub returns-in_ok-put_fired-in-Ok-clause-follows : goal.returns-in_ok-put_fired-in-Ok-clause-follows
returns-in_ok-put_fired-in-Ok-clause-follows g c = grind (arith, faults)

pub returns-in_ok-put_fired-in-Ok-clause-prints : goal.returns-in_ok-put_fired-in-Ok-clause-prints
returns-in_ok-put_fired-in-Ok-clause-prints g c = grind (arith, faults)

pub returns-in-Err-Place-clause-counts : goal.returns-in-Err-Place-clause-counts
returns-in-Err-Place-clause-counts g c = grind (arith, faults)

pub returns-in-Err-Place-clause-told : goal.returns-in-Err-Place-clause-told
returns-in-Err-Place-clause-told g c = grind (arith, faults)

pub returns-in-Err-Place-clause-follows : goal.returns-in-Err-Place-clause-follows
returns-in-Err-Place-clause-follows g c = grind (arith, faults)

pub returns-in-Err-Place-clause-prints : goal.returns-in-Err-Place-clause-prints
returns-in-Err-Place-clause-prints g c = grind (arith, faults)

pub returns-in-Err-Length-clause-counts : goal.returns-in-Err-Length-clause-counts
returns-in-Err-Length-clause-counts g c = grind (arith, faults)

pub returns-in-Err-Length-clause-told : goal.returns-in-Err-Length-clause-told
returns-in-Err-Length-clause-told g c = grind (arith, faults)

pub returns-in-Err-Length-clause-follows : goal.returns-in-Err-Length-clause-follows
returns-in-Err-Length-clause-follows g c = grind (arith, faults)

pub returns-in-Err-Length-clause-prints : goal.returns-in-Err-Length-clause-prints
returns-in-Err-Length-clause-prints g c = grind (arith, faults)

pub returns-in-Err-Memory-clause-counts : goal.returns-in-Err-Memory-clause-counts
returns-in-Err-Memory-clause-counts g c = grind (arith, faults)

pub returns-in-Err-Memory-clause-told : goal.returns-in-Err-Memory-clause-told
returns-in-Err-Memory-clause-told g c = grind (arith, faults)

pub returns-in-Err-Memory-clause-follows : goal.returns-in-Err-Memory-clause-follows
returns-in-Err-Memory-clause-follows g c = grind (arith, faults)

pub returns-in-Err-Memory-clause-prints : goal.returns-in-Err-Memory-clause-prints
returns-in-Err-Memory-clause-prints g c = grind (arith, faults)
