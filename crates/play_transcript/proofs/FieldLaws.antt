-- The lines that an event, a preview and an expected text print in the current field, and the session after them.
use Rattle.std.proofs.Common.{◌≡◌, ℕ, zero, suc, ◌+◌, ◌<◌, Bool, true, false, List, [], ◌∷◌, ◌++◌, length, drop, get_or, cond, Option, Some, None, Result, Ok, Err, refl, sym, ap, ◌∙◌, subst, add-one, drop-cons}
use Rattle.std.specs.Prelude.{IsSomeAnd}
use Rattle.std.specs.List.{All}
use Rattle.std.specs.Str.{bytes_eq}
use Rattle.std.proofs.lemmas.List.Elements.{All-get_or}
use Rattle.std.proofs.lemmas.Option.{slice_get_within, get_or_from_slice_get}
use Rattle.kmn_base.specs.declared.codes.Code.{Code}
use Rattle.kmn_base.specs.declared.events.Event.{Event}
use Rattle.kmn_base.specs.declared.events.Event.TheVariants as event
use Rattle.kmn_base.specs.declared.events.Outcome.{Outcome}
use Rattle.kmn_base.specs.declared.keys.KeyPress.{KeyPress}
use Rattle.rule_model.specs.Act.{one_more}
use Rattle.rule_model.specs.Event.{Happening, event_of, event_refusal, unless_refused, whole_text}
use Rattle.rule_model.specs.Transcript.{expect_line}
use Rattle.rule_model.specs.Tab.{tab}
use Rattle.play_session.specs.declared.session.Step.{Step}
use Rattle.play_session.specs.Answers.{step_of}
use Rattle.play_session.specs.Printed.{IsSession, ChangesArePrinted}
use Rattle.play_session.specs.Session.{SessionState, happened, after_step}
use Rattle.play_transcript.specs.Playing.{happening_lines}
use Rattle.play_transcript.specs.Printing.{AppendsBut, IsBegun}
use Rattle.play_transcript.proofs.PlayingLaws.{step_of_stores, happened_prints}
use Rattle.play_transcript.proofs.PrintingLaws.{begun_within}
use Rattle.text_host.specs.Host.{HostState, field_of, with_field}
use Rattle.text_host.proofs.Alone.{acted}
use Rattle.play_transcript.specs.declared.host_playing.Play.{Play}
use Rattle.play_transcript.specs.EachEntry.{AreSessions, told_lines, ReportsStoreFault, is_text_of}
use Rattle.play_transcript.specs.HostText.{front, preview_line, event_text, preview_text, expect_text, text_or_refusal, event_lines, preview_lines, field_text, field_texts}
use Rattle.play_transcript.specs.HostPlaying.{turned_to, refusal_in}

-- ---- the session of a field

-- if a property is true for all sessions of a host, it is true for the session of a field
pub of_field : (P : SessionState → Type 0) (host : HostState) (field : ℕ) (session : SessionState) → All P host.sessions → field_of host field ≡ Some session → P session
of_field P host zero session all there = absurd (cc)
of_field P host (suc place) session all there =
    let within : place < length host.sessions = slice_get_within host.sessions place session there in
    subst P (get_or_from_slice_get host.sessions place session session there) (All-get_or P host.sessions place session within all)

-- if an event is done in a field, the field has the session after the event
behind_step : (before after : HostState) (field : ℕ) (session : SessionState) (event : Event) → field_of before field ≡ Some session → after ≡ with_field field (after_step session event) before
    → field_of after field ≡ Some (after_step session event)
behind_step before after field session event there left = ap (λ (h : HostState). field_of h field) left ∙ acted before field session (after_step session event) there

-- ---- an event that was done

-- if an event is done, it is not refused
not_refused : (refusal : Option Code) (session : SessionState) (event : Event) → event_refusal session.state event ≡ refusal → event_of (tab session.tables) session.state event ≡ Ok (happened session event)
    → refusal ≡ None
not_refused None session event is at = refl
not_refused (Some code) session event is at = absurd (by_result (sym (ap (λ (c : Option Code). result_of c) is) ∙ at))
  where
    result_of : Option Code → Result Happening Code
    result_of c = unless_refused c (happened session event)

    by_result : Err code ≡ Ok (happened session event) → ⊥
    by_result same = cc

done : (there : Option SessionState) (session : SessionState) (event : Event) → there ≡ Some session → event_of (tab session.tables) session.state event ≡ Ok (happened session event)
    → refusal_in there event ≡ None
done there session event is at = ap (λ (t : Option SessionState). refusal_in t event) is ∙ not_refused (event_refusal session.state event) session event refl at

-- the lines of a step by the session after it are the lines of its event
step_lines_told : ChangesArePrinted → (field : ℕ) (number : ℕ) (before after : Option SessionState) (session : SessionState) (event : Event) (step : Step) → IsSession session
    → before ≡ Some session → after ≡ Some (after_step session event) → event_of (tab session.tables) session.state event ≡ Ok (happened session event) → step ≡ step_of session event
    → told_lines field step after ≡ text_or_refusal (refusal_in before event) number (event_text field event before)
step_lines_told printed field number before after session event step is there left at made =
    ap (told_lines field step) left
    ∙ happened_prints printed (front field) session (after_step session event) event step is at made refl
    ∙ ap (happening_lines (front field) session.state (one_more session.number)) at
    ∙ ap (event_text field event) (sym there)
    ∙ ap (λ (c : Option Code). text_or_refusal c number (event_text field event before)) (sym (done before session event there at))

-- the changes of the session after a step are changes of its stores
step_tells : (after : Option SessionState) (session : SessionState) (event : Event) → after ≡ Some (after_step session event) → ReportsStoreFault after
step_tells after session event left = subst ReportsStoreFault (sym left) (step_of_stores session (after_step session event) event refl)

-- ---- a preview that was shown

preview_told : (there : Option SessionState) (session : SessionState) (press : KeyPress) (number field : ℕ) → there ≡ Some session
    → event_of (tab session.tables) session.state (event.Key press) ≡ Ok (happened session (event.Key press))
    → preview_text field press (Some session) ≡ text_or_refusal (refusal_in there (event.Key press)) number (preview_text field press there)
preview_told there session press number field is at =
    ap (preview_text field press) (sym is)
    ∙ ap (λ (c : Option Code). text_or_refusal c number (preview_text field press there)) (sym (done there session (event.Key press) is at))

-- ---- the texts at the end

module _ (sessions : List SessionState) (i : ℕ) (d session : SessionState) (within : i < length sessions) (at : session ≡ get_or sessions i d) where
  first_text : (field : ℕ) → field_texts field (drop i sessions) ≡ field_text field session ++ field_texts (field + 1) (drop (i + 1) sessions)
  first_text field =
      let first : drop i sessions ≡ get_or sessions i d ∷ drop (i + 1) sessions = rw add-one (drop-cons sessions i d within) in
      ap (field_texts field) (first ∙ ap (λ (s : SessionState). s ∷ drop (i + 1) sessions) (sym at))

  pub text_begun : (field : ℕ) (start before after whole : List ℕ) → AppendsBut (field_texts field (drop i sessions)) start before whole → IsBegun before after (field_text field session)
      → IsBegun start after whole
  text_begun field start before after whole appended begun =
      begun_within (field_text field session) (field_texts (field + 1) (drop (i + 1) sessions)) start before after whole
      (subst (λ (lines : List ℕ). AppendsBut lines start before whole) (first_text field) appended) begun

-- ---- an expected text that differs

differs_by : (same : Bool) (line : List ℕ) → same ≡ false → cond same [] line ≡ line
differs_by true line is = absurd (cc)
differs_by false line is = refl

pub expect_differs : (field line : ℕ) (text : List ℕ) (there : Option SessionState) → is_text_of text there ≡ false → expect_text field line text there ≡ front field ++ expect_line line
expect_differs field line text None is = absurd (cc)
expect_differs field line text (Some session) is = differs_by (bytes_eq (whole_text session.state) text) (front field ++ expect_line line) is

-- ---- lemmas that the functions use

-- a step in the current field, whose lines the session after it determines
pub record StepTold (before : Play) (after : HostState) (event : Event) (step : Step) : Type 0 where
  pub stores : ReportsStoreFault (field_of after before.field)
  pub lines : told_lines before.field step (field_of after before.field) ≡ event_lines before event

pub step_told : ChangesArePrinted → (before : Play) (after : HostState) (event : Event) (step : Step) → AreSessions before.host
    → IsSomeAnd (turned_to before) (λ session. event_of (tab session.tables) session.state event ≡ Ok (happened session event))
    → IsSomeAnd (turned_to before) (λ session. step ≡ step_of session event)
    → IsSomeAnd (turned_to before) (λ session. after ≡ with_field before.field (after_step session event) before.host) → StepTold before after event step
step_told printed before after event step are = by_there (turned_to before) refl
  where
    by_there : (t : Option SessionState) → turned_to before ≡ t
        → IsSomeAnd t (λ session. event_of (tab session.tables) session.state event ≡ Ok (happened session event))
        → IsSomeAnd t (λ session. step ≡ step_of session event)
        → IsSomeAnd t (λ session. after ≡ with_field before.field (after_step session event) before.host) → StepTold before after event step
    by_there None there at made left = absurd at
    by_there (Some session) there at made left =
        let behind : field_of after before.field ≡ Some (after_step session event) = behind_step before.host after before.field session event there left in
        record {
          stores = step_tells (field_of after before.field) session event behind;
          lines = step_lines_told printed before.field (one_more before.asked) (turned_to before) (field_of after before.field) session event step
              (of_field IsSession before.host before.field session are there) there behind at made;
        }

-- if a preview is shown in the current field, the printed line is the line of its press
pub shown_lines : (before : Play) (press : KeyPress) (outcome : Outcome) (inserted : List ℕ)
    → IsSomeAnd (turned_to before) (λ session. event_of (tab session.tables) session.state (event.Key press) ≡ Ok (happened session (event.Key press)))
    → IsSomeAnd (turned_to before) (λ session. outcome ≡ (happened session (event.Key press)).outcome)
    → IsSomeAnd (turned_to before) (λ session. inserted ≡ (happened session (event.Key press)).inserted)
    → front before.field ++ preview_line outcome inserted ≡ preview_lines before press
shown_lines before press outcome inserted = by_there (turned_to before) refl
  where
    by_there : (t : Option SessionState) → turned_to before ≡ t
        → IsSomeAnd t (λ session. event_of (tab session.tables) session.state (event.Key press) ≡ Ok (happened session (event.Key press)))
        → IsSomeAnd t (λ session. outcome ≡ (happened session (event.Key press)).outcome)
        → IsSomeAnd t (λ session. inserted ≡ (happened session (event.Key press)).inserted)
        → front before.field ++ preview_line outcome inserted ≡ preview_lines before press
    by_there None there at made put = absurd at
    by_there (Some session) there at made put =
        (λ i. front before.field ++ preview_line (made i) (put i)) ∙ preview_told (turned_to before) session press (one_more before.asked) before.field there at
