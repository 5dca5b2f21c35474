use Rattle.std.proofs.Common.{rules, arith, refl}
use Rattle.play_transcript.proofs.PrintingLaws.{fault_prints, faults}
use Rattle.play_transcript.proofs.PlayingLaws.{change_begun, changes_begin}
use Rattle.std.proofs.lemmas.Grind.{common_steps}
use Rattle.play_transcript.proofs.playing.put_changes.Goals as goal

pub returns-in_err-put_change-clause-prints : goal.returns-in_err-put_change-clause-prints
returns-in_err-put_change-clause-prints g c = λ told.
    fault_prints _ _ _ _ _ c.from_residual.ensures.1 (change_begun c.args.front.now c.args.session.now c.args.changes.now c.loop-change.change-index _ _ (omega arith) refl
    _ _ _ _ (c.loop-change.invariant.printed told) (c.in_err-put_change.ensures.prints (search rules)))

pub returns-clause-counts : goal.returns-clause-counts
returns-clause-counts g c = grind (arith, faults, changes_begin)

pub returns-clause-told : goal.returns-clause-told
returns-clause-told g c = grind (arith, faults, changes_begin)

pub loop-change-preserved : goal.loop-change-preserved
loop-change-preserved g c = grind (arith, common_steps)

pub returns-clause-prints : goal.returns-clause-prints
returns-clause-prints g c = grind (arith, common_steps)
