-- Each field returns the steps of the trace of the field's own events.
use Rattle.std.proofs.Common.{◌≡◌, ◌≢◌, ℕ, zero, suc, ◌+◌, Bool, true, false, eqb, cond, List, [], ◌∷◌, ◌++◌, length, slice_get, refl, sym, ap, ◌∙◌, inl, inr, arith}
use Rattle.std.specs.Prelude.{nat_le, Option, Some, None, Result, Ok, Err}
use Rattle.std.proofs.lemmas.Bool.Decides.{eqb_tells}
use Rattle.std.proofs.lemmas.Option.{slice_get_within}
use Rattle.kmn_base.specs.declared.events.Event.{Event}
use Rattle.kmn_base.specs.declared.codes.Code.{Code}
use Rattle.kmn_base.specs.declared.limits.TheConstants.{FIELDS}
use Rattle.kmn_base.proofs.Elements.{slice_get-set_other, slice_get-set_same, slice_get-append_left}
use Rattle.rule_model.specs.Act.{one_more}
use Rattle.rule_model.specs.Event.{State, Happening, happening, event_refusal, unless_refused}
use Rattle.rule_model.specs.Keyboard.{Keyboard}
use Rattle.rule_model.specs.Tab.{tab}
use Rattle.rule_model.specs.Trace.{Step, Steps, first_state, steps_from, before_steps, step_then, trace}
use Rattle.play_session.specs.Session.{SessionState, first_session, after_step, happened}
use Rattle.text_host.specs.Host.{HostState, field_of, with_field, with_new_field}
use Rattle.text_host.specs.Alone.{HostCall, Opens, Turns, answer_to, gone_on, kept_unless, with_answer, alone_from, answered_from, session_after, turned, after_calls, state_behind, StepsAreThoseAlone, StatesAreThoseAlone, FieldsAreApart, FieldsBegin}

-- ---- lists

append_last : {X : Type 0} (xs : List X) (x : X) → slice_get (xs ++ x ∷ []) (length xs) ≡ Some x
append_last [] x = refl
append_last (y ∷ xs) x = append_last xs x

-- ---- one field's steps

-- if an event is not refused, its result is what happens
done_is : (refusal : Option Code) (h done : Happening) → unless_refused refusal h ≡ Ok done → done ≡ h
done_is None h done is = cc
done_is (Some code) h done is = cc

-- from a session on, the steps of a field's own events are the steps that the field returns, and no event is refused
abbrev IsAlone : ℕ → List HostCall → SessionState → Type 0
IsAlone field calls session =
    steps_from (tab session.tables) (one_more session.number) (alone_from field session calls) session.state
    ≡ record { done = answered_from field session calls; refused = None }

-- if this is true for later calls, it is true with one more event in the field before them, whatever the session returns
by_answer : (field : ℕ) (calls : List HostCall) (session : SessionState) (event : Event) → ((s : SessionState) → IsAlone field calls s)
    → (r : Result Happening Code) → answer_to session event ≡ r
    → steps_from (tab session.tables) (one_more session.number) (kept_unless event r (alone_from field (gone_on session event r) calls)) session.state
    ≡ record { done = with_answer session r (answered_from field (gone_on session event r) calls); refused = None }
by_answer field calls session event more (Err code) is = more session
by_answer field calls session event more (Ok done) is =
    let kb : Keyboard = tab session.tables in
    let n : ℕ = one_more session.number in
    let rest : List Event = alone_from field (after_step session event) calls in
    let after : done.after ≡ (happened session event).after
    = ap (λ (h : Happening). h.after) (done_is (event_refusal session.state event) (happening kb session.state event) done is) in
    ap (step_then n (steps_from kb (one_more n) rest)) is
    ∙ (ap (λ (s : State). before_steps (record { number = n; happened = done }) (steps_from kb (one_more n) rest s)) after
    ∙ ap (before_steps (record { number = n; happened = done })) (more (after_step session event)))

-- if this is true for later calls, it is true with one more event before them, whether or not the event is in this field
by_field : (field : ℕ) (calls : List HostCall) (session : SessionState) (event : Event) → ((s : SessionState) → IsAlone field calls s) → (b : Bool)
    → steps_from (tab session.tables) (one_more session.number)
    (cond b (kept_unless event (answer_to session event) (alone_from field (gone_on session event (answer_to session event)) calls)) (alone_from field session calls)) session.state
    ≡ record { done = cond b (with_answer session (answer_to session event) (answered_from field (gone_on session event (answer_to session event)) calls)) (answered_from field session calls); refused = None }
by_field field calls session event more true = by_answer field calls session event more (answer_to session event) refl
by_field field calls session event more false = more session

pub steps_alone : (field : ℕ) (calls : List HostCall) (session : SessionState) → IsAlone field calls session
steps_alone field [] session = refl
steps_alone field (Opens ∷ calls) session = steps_alone field calls session
steps_alone field (Turns other event ∷ calls) session = by_field field calls session event (steps_alone field calls) (eqb other field)

pub steps_are_those_alone : StepsAreThoseAlone
unfolding trace
steps_are_those_alone field tables calls = ap (λ (steps : Steps). steps.done) (steps_alone field calls (first_session tables))

-- ---- the state after the steps

state_by_answer : (field : ℕ) (calls : List HostCall) (session : SessionState) (event : Event)
    → ((s : SessionState) → (session_after field s calls).state ≡ state_behind s.state (answered_from field s calls))
    → (r : Result Happening Code) → answer_to session event ≡ r
    → (session_after field (gone_on session event r) calls).state ≡ state_behind session.state (with_answer session r (answered_from field (gone_on session event r) calls))
state_by_answer field calls session event more (Err code) is = more session
state_by_answer field calls session event more (Ok done) is =
    let after : done.after ≡ (happened session event).after
    = ap (λ (h : Happening). h.after) (done_is (event_refusal session.state event) (happening (tab session.tables) session.state event) done is) in
    more (after_step session event) ∙ ap (λ (s : State). state_behind s (answered_from field (after_step session event) calls)) (sym after)

state_by_field : (field : ℕ) (calls : List HostCall) (session : SessionState) (event : Event)
    → ((s : SessionState) → (session_after field s calls).state ≡ state_behind s.state (answered_from field s calls)) → (b : Bool)
    → (cond b (session_after field (gone_on session event (answer_to session event)) calls) (session_after field session calls)).state
    ≡ state_behind session.state (cond b (with_answer session (answer_to session event) (answered_from field (gone_on session event (answer_to session event)) calls)) (answered_from field session calls))
state_by_field field calls session event more true = state_by_answer field calls session event more (answer_to session event) refl
state_by_field field calls session event more false = more session

state_alone : (field : ℕ) (calls : List HostCall) (session : SessionState) → (session_after field session calls).state ≡ state_behind session.state (answered_from field session calls)
state_alone field [] session = refl
state_alone field (Opens ∷ calls) session = state_alone field calls session
state_alone field (Turns other event ∷ calls) session = state_by_field field calls session event (state_alone field calls) (eqb other field)

pub states_are_those_alone : StatesAreThoseAlone
unfolding trace
states_are_those_alone field tables calls =
    state_alone field calls (first_session tables)
    ∙ ap (λ (steps : Steps). state_behind (first_state (tab tables)) steps.done) (sym (steps_alone field calls (first_session tables)))

-- ---- independent fields

pub fields_begin : FieldsBegin
fields_begin host =
    let e : length host.sessions + 1 ≡ suc (length host.sessions) = omega arith in
    ap (field_of (with_new_field host)) e ∙ append_last host.sessions (first_session host.tables)

-- if a field exists, adding a field does not change its session
pub opened : (host : HostState) (field : ℕ) (session : SessionState) → field_of host field ≡ Some session → field_of (with_new_field host) field ≡ Some session
opened host zero session is = is
opened host (suc place) session is =
    slice_get-append_left host.sessions (first_session host.tables ∷ []) place (slice_get_within host.sessions place session is) ∙ is

-- if a field exists, a call that opens a field does not change its session, even if the host is full
opened_or_full : (host : HostState) (field : ℕ) (session : SessionState) → field_of host field ≡ Some session → (full : Bool) → field_of (cond full host (with_new_field host)) field ≡ Some session
opened_or_full host field session is true = is
opened_or_full host field session is false = opened host field session is

-- if a field exists, replacing its session results in a host where the field has the new session
pub acted : (host : HostState) (field : ℕ) (session after : SessionState) → field_of host field ≡ Some session → field_of (with_field field after host) field ≡ Some after
acted host zero session after is = cc
acted host (suc place) session after is = slice_get-set_same host.sessions place after (slice_get_within host.sessions place session is)

-- if two fields differ, an event in one does not change the session of the other
apart : (host : HostState) (field other : ℕ) (event : Event) (there : Option SessionState) → field ≢ other → field_of (turned other event there host) field ≡ field_of host field
apart host field other event None differ = refl
apart host field zero event (Some session) differ = refl
apart host zero (suc place) event (Some session) differ = refl
apart host (suc k) (suc place) event (Some session) differ =
    slice_get-set_other host.sessions place k (gone_on session event (answer_to session event)) (λ same. differ (ap suc same))

pub fields_are_apart : FieldsAreApart
fields_are_apart host field session [] is = is
fields_are_apart host field session (Opens ∷ calls) is =
    let full : Bool = nat_le FIELDS (length host.sessions) in
    fields_are_apart (cond full host (with_new_field host)) field session calls (opened_or_full host field session is full)
fields_are_apart host field session (Turns other event ∷ calls) is = elim (eqb_tells other field) [
  | inl same ↦
      let next : SessionState = gone_on session event (answer_to session event) in
      let here : turned other event (field_of host other) host ≡ with_field field next host
      = ap (λ (n : ℕ). turned n event (field_of host n) host) same.1 ∙ ap (λ (o : Option SessionState). turned field event o host) is in
      ap (λ (h : HostState). field_of (after_calls h calls) field) here
      ∙ (fields_are_apart (with_field field next host) field next calls (acted host field session next is)
      ∙ sym (ap (λ (b : Bool). Some (cond b (session_after field next calls) (session_after field session calls))) same.0))
  | inr differ ↦
      fields_are_apart (turned other event (field_of host other) host) field session calls (apart host field other event (field_of host other) (λ e. differ.1 (sym e)) ∙ is)
      ∙ sym (ap (λ (b : Bool). Some (cond b (session_after field (gone_on session event (answer_to session event)) calls) (session_after field session calls))) differ.0)
]
