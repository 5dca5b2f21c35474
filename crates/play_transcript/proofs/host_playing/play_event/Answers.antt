use Rattle.std.proofs.Common.{◌≡◌, ◌++◌, List, ℕ, subst, arith}
use Rattle.play_session.proofs.Printing.{changes_are_printed}
use Rattle.play_transcript.specs.Printing.{IsBegun}
use Rattle.play_transcript.proofs.PrintingLaws.{fault_prints, faults}
use Rattle.play_transcript.proofs.FieldLaws.{StepTold, step_told}
use Rattle.play_transcript.proofs.host_playing.play_event.Goals as goal

pub put_field_step-requires : goal.put_field_step-requires
put_field_step-requires g c =
    let h : StepTold c.args.play.now c.step.new.self c.args.event.now c.in-Ok.step
    = step_told changes_are_printed c.args.play.now c.step.new.self c.args.event.now c.in-Ok.step c.requires.options c.in-Ok.ensures.happens c.in-Ok.ensures.answer c.in-Ok.ensures.leaves in
    h.stores

pub returns-in_err-put_field_step-in-Ok-clause-prints : goal.returns-in_err-put_field_step-in-Ok-clause-prints
returns-in_err-put_field_step-in-Ok-clause-prints g c = λ told.
    let h : StepTold c.args.play.now c.step.new.self c.args.event.now c.in-Ok.step
    = step_told changes_are_printed c.args.play.now c.step.new.self c.args.event.now c.in-Ok.step c.requires.options c.in-Ok.ensures.happens c.in-Ok.ensures.answer c.in-Ok.ensures.leaves in
    fault_prints _ _ _ _ _ c.from_residual.ensures.1
    (subst (λ (lines : List ℕ). IsBegun (g.S.Sink.written c.args.out.now) (g.S.Sink.written c.put_field_step.new.out) lines) h.lines (c.in_err-put_field_step-in-Ok.ensures.prints told))

pub returns-in_ok-put_field_step-in-Ok-clause-prints : goal.returns-in_ok-put_field_step-in-Ok-clause-prints
returns-in_ok-put_field_step-in-Ok-clause-prints g c = λ told.
    let h : StepTold c.args.play.now c.step.new.self c.args.event.now c.in-Ok.step
    = step_told changes_are_printed c.args.play.now c.step.new.self c.args.event.now c.in-Ok.step c.requires.options c.in-Ok.ensures.happens c.in-Ok.ensures.answer c.in-Ok.ensures.leaves in
    subst (λ (lines : List ℕ). g.S.Sink.written c.put_field_step.new.out ≡ g.S.Sink.written c.args.out.now ++ lines) h.lines (c.in_ok-put_field_step-in-Ok.ensures.prints told)

pub returns-in_err-put_field_step-in-Ok-clause-counts : goal.returns-in_err-put_field_step-in-Ok-clause-counts
returns-in_err-put_field_step-in-Ok-clause-counts g c = grind (arith, faults)

pub returns-in_err-put_field_step-in-Ok-clause-told : goal.returns-in_err-put_field_step-in-Ok-clause-told
returns-in_err-put_field_step-in-Ok-clause-told g c = grind (arith, faults)

pub returns-in_err-put_field_step-in-Ok-clause-plays : goal.returns-in_err-put_field_step-in-Ok-clause-plays
returns-in_err-put_field_step-in-Ok-clause-plays g c = grind (arith, faults)

pub overflow_add-play : goal.overflow_add-play
overflow_add-play g c = grind (arith, faults)

pub returns-in_err-code-in-Err-clause-counts : goal.returns-in_err-code-in-Err-clause-counts
returns-in_err-code-in-Err-clause-counts g c = grind (arith, faults)

pub returns-in_err-code-in-Err-clause-told : goal.returns-in_err-code-in-Err-clause-told
returns-in_err-code-in-Err-clause-told g c = grind (arith, faults)

pub returns-in_err-code-in-Err-clause-plays : goal.returns-in_err-code-in-Err-clause-plays
returns-in_err-code-in-Err-clause-plays g c = grind (arith, faults)

pub returns-in_err-code-in-Err-clause-prints : goal.returns-in_err-code-in-Err-clause-prints
returns-in_err-code-in-Err-clause-prints g c = grind (arith, faults)

pub returns-in_ok-put_field_step-in-Ok-clause-counts : goal.returns-in_ok-put_field_step-in-Ok-clause-counts
returns-in_ok-put_field_step-in-Ok-clause-counts g c = grind (arith, faults)

pub returns-in_ok-put_field_step-in-Ok-clause-told : goal.returns-in_ok-put_field_step-in-Ok-clause-told
returns-in_ok-put_field_step-in-Ok-clause-told g c = grind (arith, faults)

pub returns-in_ok-put_field_step-in-Ok-clause-plays : goal.returns-in_ok-put_field_step-in-Ok-clause-plays
returns-in_ok-put_field_step-in-Ok-clause-plays g c = grind (arith, faults)

pub returns-in_ok-code-in-Err-clause-counts : goal.returns-in_ok-code-in-Err-clause-counts
returns-in_ok-code-in-Err-clause-counts g c = grind (arith, faults)

pub returns-in_ok-code-in-Err-clause-told : goal.returns-in_ok-code-in-Err-clause-told
returns-in_ok-code-in-Err-clause-told g c = grind (arith, faults)

pub returns-in_ok-code-in-Err-clause-plays : goal.returns-in_ok-code-in-Err-clause-plays
returns-in_ok-code-in-Err-clause-plays g c = grind (arith, faults)

pub returns-in_ok-code-in-Err-clause-prints : goal.returns-in_ok-code-in-Err-clause-prints
returns-in_ok-code-in-Err-clause-prints g c = grind (arith, faults)
