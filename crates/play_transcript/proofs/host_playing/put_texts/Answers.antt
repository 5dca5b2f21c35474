use Rattle.std.proofs.Common.{◌+◌, ◌∙◌, List, length, get_or, ap, rules, arith}
use Rattle.play_session.specs.Session.{SessionState}
use Rattle.play_transcript.proofs.PrintingLaws.{fault_prints, faults}
use Rattle.play_transcript.proofs.FieldLaws.{text_begun}
use Rattle.std.proofs.lemmas.Grind.{common_steps}
use Rattle.play_transcript.proofs.host_playing.put_texts.Goals as goal

pub returns-in_err-put_text-clause-prints : goal.returns-in_err-put_text-clause-prints
returns-in_err-put_text-clause-prints g c = λ told.
    fault_prints _ _ _ _ _ c.from_residual.ensures.1
    (text_begun c.args.host.now.sessions c.loop-session.session-index c.session-item.result c.session-item.result
    (omega (arith, ap length c.fields-session-items.ensures.value))
    (c.session-item.is ∙ ap (λ (sessions : List SessionState). get_or sessions c.loop-session.session-index c.session-item.result) c.fields-session-items.ensures.value)
    (c.loop-session.field + 1) _ _ _ _ (c.loop-session.invariant.printed told) (c.in_err-put_text.ensures.prints (search rules)))

pub returns-clause-counts : goal.returns-clause-counts
returns-clause-counts g c = grind (arith, faults)

pub returns-clause-told : goal.returns-clause-told
returns-clause-told g c = grind (arith, faults)

pub loop-session-preserved : goal.loop-session-preserved
loop-session-preserved g c = grind (arith, common_steps)

pub returns-clause-prints : goal.returns-clause-prints
returns-clause-prints g c = grind (arith, common_steps)
