-- The law: the tables that a well-named program compiles to take the same steps as the program.
use Rattle.std.proofs.Common.{◌≡◌, ℕ, true, Option, Some, None, refl, ap, sym, ◌∙◌}
use Rattle.std.specs.Prelude.{find}
use Rattle.std.proofs.lemmas.Bool.{false≢true}
use Rattle.kmn_base.specs.declared.events.Event.{Event}
use Rattle.kmn_base.specs.declared.events.Event.TheVariants as event
use Rattle.kmn_base.specs.declared.keys.KeyPress.{KeyPress}
use Rattle.rule_model.specs.declared.event_state.EventState.{EventState}
use Rattle.rule_model.specs.declared.program.BeginDef.{BeginDef}
use Rattle.rule_model.specs.declared.program.Program.{Program}
use Rattle.rule_model.specs.declared.tables.Tables.{Tables}
use Rattle.rule_model.specs.Keyboard.{Numbered}
use Rattle.rule_model.specs.Enter.{enter_group}
use Rattle.rule_model.specs.KeyEvent.{begin_event, after_key}
use Rattle.rule_model.specs.Event.{State, happening_of, happening, event_refusal, unless_refused, event_of}
use Rattle.rule_model.specs.Trace.{Trace, trace_of, steps_from, first_state}
use Rattle.compile_laws.specs.Numbers.{numbers_of, number_of_start}
use Rattle.compile_laws.specs.Compiles.{Compiles}
use Rattle.compile_laws.specs.WellNamed.{IsWellNamed, is_known_start}
use Rattle.rule_model.specs.Src.{src, start_named, is_unicode}
use Rattle.rule_model.specs.Tab.{tab}
use Rattle.rule_model.specs.Transcript.{transcript, transcript_of, events_of}
use Rattle.compile_laws.specs.Law.{MeaningIsKept, TranscriptIsKept}
use Rattle.compile_laws.proofs.Keyboards.{src_start, tab_start, after_key-enters, trace-steps}
use Rattle.compile_laws.proofs.Traces.{steps_from-same}
use Rattle.compile_laws.proofs.Stores.{linked, first_state-same}
use Rattle.compile_laws.proofs.Dictionary.{dictionary-same}
use Rattle.compile_laws.proofs.Groups.{level-same}

module _ (p : Program) (t : Tables) (ok : IsWellNamed p) (c : Compiles p t) where
  start-same : (n : ℕ) (press : KeyPress) (s : EventState) (o : Option BeginDef) → is_known_start p o ≡ true →
      enter_group n (src p) press (start_named o) s ≡ enter_group n (tab t) press (Numbered (number_of_start (numbers_of p) o)) s
  start-same n press s None h = absurd (false≢true h)
  start-same n press s (Some start) h = sym (level-same p t ok c (linked p t ok c) (dictionary-same p t ok c) press n start.group h s)

  key-same : (press : KeyPress) (s : EventState) → after_key (src p) press s ≡ after_key (tab t) press s
  key-same press s =
      after_key-enters (src p) press s
      ∙ (ap (λ r. enter_group 50 (src p) press r s) (src_start p)
      ∙ (start-same 50 press s (find is_unicode p.begins) ok.start
      ∙ (ap (λ r. enter_group 50 (tab t) press r s) (ap Numbered (sym c.start_unicode) ∙ sym (tab_start t))
      ∙ sym (after_key-enters (tab t) press s))))

  happening-same : (state : State) (event : Event) → happening (src p) state event ≡ happening (tab t) state event
  unfolding happening
  happening-same state (event.Key press) = ap (λ s. happening_of press s state) (key-same press (begin_event state.left state.current state.saved))
  happening-same state event = refl

  event-same : (state : State) (event : Event) → event_of (src p) state event ≡ event_of (tab t) state event
  event-same state event = ap (unless_refused (event_refusal state event)) (happening-same state event)

pub meaning_kept : MeaningIsKept
meaning_kept p t ok c events =
    trace-steps (src p) events
    ∙ (ap (λ first. trace_of first (steps_from (src p) 1 events first)) (first_state-same p t ok c)
    ∙ (ap (trace_of (first_state (tab t))) (steps_from-same (src p) (tab t) (event-same p t ok c) 1 events (first_state (tab t)))
    ∙ sym (trace-steps (tab t) events)))

pub transcript_kept : TranscriptIsKept
unfolding transcript
transcript_kept p t ok c entries = ap (λ (trace : Trace). transcript_of trace entries) (meaning_kept p t ok c (events_of entries))
