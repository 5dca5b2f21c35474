-- A key event directly after its preview does what the preview returned.
use Rattle.std.proofs.Common.{◌≡◌, ℕ, Option, Some, None, refl, sym, ap, subst, ◌∙◌}
use Rattle.std.specs.Prelude.{IsSomeAnd}
use Rattle.kmn_base.specs.declared.events.Event.{Event}
use Rattle.kmn_base.specs.declared.events.Event.TheVariants as event
use Rattle.kmn_base.specs.declared.keys.KeyPress.{KeyPress}
use Rattle.rule_engine.specs.declared.engine.Preview.{Preview}
use Rattle.play_session.specs.declared.session.Step.{Step}
use Rattle.play_session.specs.Answers.{step_of}
use Rattle.play_session.specs.Session.{SessionState, after_step, happened}
use Rattle.text_host.specs.Host.{HostState, field_of, with_field, IsForeseen, IsDone, PreviewsComeTrue}
use Rattle.text_host.proofs.Alone.{acted}

pub previews_come_true : PreviewsComeTrue
previews_come_true host after field press preview step foreseen done = by_there (field_of host field) refl foreseen.outcome foreseen.inserted done.answer done.leaves
  where
    by_there : (there : Option SessionState) → field_of host field ≡ there
        → IsSomeAnd there (λ session. preview.outcome ≡ (happened session (event.Key press)).outcome)
        → IsSomeAnd there (λ session. preview.inserted ≡ (happened session (event.Key press)).inserted)
        → IsSomeAnd there (λ session. step ≡ step_of session (event.Key press))
        → IsSomeAnd there (λ session. after ≡ with_field field (after_step session (event.Key press)) host)
        → (step.outcome ≡ preview.outcome) × IsSomeAnd (field_of after field) (λ session. session.inserted ≡ preview.inserted)
    by_there None there outcome inserted answer leaves = absurd answer
    by_there (Some session) there outcome inserted answer leaves =
        let behind : field_of after field ≡ Some (after_step session (event.Key press))
        = ap (λ (h : HostState). field_of h field) leaves ∙ acted host field session (after_step session (event.Key press)) there in (
          ap (λ (s : Step). s.outcome) answer ∙ sym outcome,
          subst (λ (there : Option SessionState). IsSomeAnd there (λ session. session.inserted ≡ preview.inserted)) (sym behind) (sym inserted),
        )
