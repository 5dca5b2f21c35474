-- Each field of a play returns the steps of the trace of the field's own events.
use Rattle.std.proofs.Common.{◌≡◌, ◌≢◌, ℕ, zero, suc, ◌+◌, ◌<◌, ◌≤◌, Bool, true, false, eqb, cond, List, [], ◌∷◌, ◌++◌, length, set, slice_get, refl, sym, ap, ◌∙◌, subst, inl, inr, arith, length-set, length-append, leb-true, leb-false}
use Rattle.std.specs.Prelude.{nat_le, Option, Some, None}
use Rattle.std.specs.Str.{bytes_eq}
use Rattle.std.proofs.lemmas.Bool.{eqb-true}
use Rattle.std.proofs.lemmas.Bool.Decides.{eqb_tells}
use Rattle.std.proofs.lemmas.Option.{slice_get_past, slice_get_within}
use Rattle.kmn_base.specs.declared.codes.Code.{Code}
use Rattle.kmn_base.specs.declared.events.Event.{Event}
use Rattle.kmn_base.specs.declared.events.Event.TheVariants as event
use Rattle.kmn_base.specs.declared.keys.KeyPress.{KeyPress}
use Rattle.kmn_base.specs.declared.limits.TheConstants.{FIELDS}
use Rattle.kmn_base.proofs.Elements.{slice_get-set_other}
use Rattle.rule_model.specs.declared.tables.Tables.{Tables}
use Rattle.rule_model.specs.Event.{event_refusal, unless_refused, whole_text}
use Rattle.rule_model.specs.Trace.{Step}
use Rattle.play_session.specs.Session.{SessionState, first_session, happened, after_step}
use Rattle.text_host.specs.Host.{HostState, field_of, with_field, with_new_field}
use Rattle.text_host.specs.Alone.{HostCall, Opens, Turns, answer_to, gone_on, with_answer, answered_from, session_after, turned, after_calls}
use Rattle.text_host.proofs.Alone.{steps_are_those_alone, fields_begin, fields_are_apart, opened, acted, states_are_those_alone}
use Rattle.text_host.specs.declared.entries.HostEntry.{HostEntry}
use Rattle.text_host.specs.declared.entries.HostEntry.TheVariants.{Open, Field, Preview, Act, Expect}
use Rattle.play_transcript.specs.declared.host_playing.Play.{Play}
use Rattle.play_transcript.specs.HostPlaying.{first_play, turned_to, refusal_in, shown, stepped, compared, rest_unless, play_unless, after_entries}
use Rattle.play_transcript.specs.HostText.{step_in}
use Rattle.play_transcript.specs.HostCalls.{calls_left, calls_of, calls_after, event_steps, steps_left}
use Rattle.play_transcript.specs.Fields.{FieldsAreTraces, calls_since}

-- ---- hosts

-- the play with one more field, which is current
abbrev wider : Play → Play
wider play = record play { host = with_new_field play.host; field = length play.host.sessions + 1 }

-- if two fields differ, an event in one does not change the session of the other
apart : (host : HostState) (field other : ℕ) (session : SessionState) → field ≢ other → field_of (with_field other session host) field ≡ field_of host field
apart host field zero session differ = refl
apart host zero (suc place) session differ = refl
apart host (suc k) (suc place) session differ = slice_get-set_other host.sessions place k session (λ same. differ (ap suc same))

-- an event changes neither the number of fields nor the tables
with_field_count : (host : HostState) (field : ℕ) (session : SessionState) → length (with_field field session host).sessions ≡ length host.sessions
with_field_count host zero session = refl
with_field_count host (suc place) session = length-set host.sessions place session

with_field_tables : (host : HostState) (field : ℕ) (session : SessionState) → (with_field field session host).tables ≡ host.tables
with_field_tables host zero session = refl
with_field_tables host (suc place) session = refl

-- if a list has an element at a position, writing the element there does not change the list
set_same : {X : Type 0} (xs : List X) (n : ℕ) (x : X) → slice_get xs n ≡ Some x → set xs n x ≡ xs
set_same [] n x is = refl
set_same (y ∷ xs) zero x is = cc
set_same (y ∷ xs) (suc n) x is = ap (λ (rest : List _). y ∷ rest) (set_same xs n x is)

with_same : (host : HostState) (field : ℕ) (session : SessionState) → field_of host field ≡ Some session → with_field field session host ≡ host
with_same host zero session is = refl
with_same host (suc place) session is = ap (λ (sessions : List SessionState). record host { sessions = sessions }) (set_same host.sessions place session is)

-- if the number of a field exceeds the number of fields, there is no such field
past_last : (host : HostState) (field opens : ℕ) → field ≡ suc (length host.sessions + opens) → field_of host field ≡ None
past_last host field opens is = ap (field_of host) is ∙ slice_get_past host.sessions (length host.sessions + opens) (omega arith)

-- if the host is full, the number of such a field exceeds 64
no_room : (host : HostState) (field opens : ℕ) → field ≡ suc (length host.sessions + opens) → field ≤ FIELDS → nat_le FIELDS (length host.sessions) ≡ true → ⊥
no_room host field opens is few full =
    let room : FIELDS ≤ length host.sessions = leb-true FIELDS (length host.sessions) full in
    omega (arith, is, few, room)

none_behind : (calls : List HostCall) → calls_after 0 calls ≡ calls
none_behind [] = refl
none_behind (call ∷ calls) = refl

-- ---- a field that is open

-- the printed steps of the field are the steps that it returns from its session on
abbrev Answers : ℕ → List HostEntry → Play → Type 0
Answers field entries play = (session : SessionState) → field_of play.host field ≡ Some session → steps_left field play entries ≡ answered_from field session (calls_left play entries)

module _ (field : ℕ) (entries : List HostEntry) (more : (play : Play) → Answers field entries play) (play : Play) (session : SessionState) (there : field_of play.host field ≡ Some session) where
  open_add : (full : Bool) → steps_left field (cond full play (wider play)) entries ≡ answered_from field session (calls_left (cond full play (wider play)) entries)
  open_add true = more play session there
  open_add false = more (wider play) session (opened play.host field session there)

  -- if an entry that may be refused does not change the session of the field, the printed steps of the rest are the returned steps
  open_unless : (refusal : Option Code) (next : Play) → field_of next.host field ≡ Some session
      → rest_unless refusal (steps_left field next entries) ≡ answered_from field session (rest_unless refusal (calls_left next entries))
  open_unless None next is = more next session is
  open_unless (Some code) next is = refl

  open_show : (press : KeyPress) (t : Option SessionState) → rest_unless (refusal_in t (event.Key press)) (steps_left field (shown play t) entries)
      ≡ answered_from field session (rest_unless (refusal_in t (event.Key press)) (calls_left (shown play t) entries))
  open_show press None = more play session there
  open_show press (Some s) = open_unless (event_refusal s.state (event.Key press)) (shown play (Some s)) there

  -- if an event is in the field, the printed steps from it on are the returned steps
  own_event : (event : Event) → play.field ≡ field → (refusal : Option Code)
      → rest_unless refusal (step_in session event ∷ steps_left field (stepped play event (Some session)) entries)
      ≡ with_answer session (unless_refused refusal (happened session event))
      (answered_from field (gone_on session event (unless_refused refusal (happened session event))) (rest_unless refusal (calls_left (stepped play event (Some session)) entries)))
  own_event event same None =
      ap (λ (steps : List Step). step_in session event ∷ steps)
      (more (stepped play event (Some session)) (after_step session event)
      (ap (λ (n : ℕ). field_of (with_field n (after_step session event) play.host) field) same ∙ acted play.host field session (after_step session event) there))
  own_event event same (Some code) = refl

  -- if an event is in another field, the printed steps from it on are the returned steps
  other_event : (event : Event) (t : Option SessionState) → field ≢ play.field → rest_unless (refusal_in t event) (steps_left field (stepped play event t) entries)
      ≡ answered_from field session (rest_unless (refusal_in t event) (calls_left (stepped play event t) entries))
  other_event event None differ = more play session there
  other_event event (Some s) differ =
      open_unless (event_refusal s.state event) (stepped play event (Some s)) (apart play.host field play.field (after_step s event) differ ∙ there)

  abbrev Told : Event → Bool → Option SessionState → Type 0
  Told event b t = rest_unless (refusal_in t event) (cond b (event_steps event t) [] ++ steps_left field (stepped play event t) entries)
      ≡ cond b
      (with_answer session (answer_to session event)
      (answered_from field (gone_on session event (answer_to session event)) (rest_unless (refusal_in t event) (calls_left (stepped play event t) entries))))
      (answered_from field session (rest_unless (refusal_in t event) (calls_left (stepped play event t) entries)))

  open_act : (event : Event) → Told event (eqb play.field field) (turned_to play)
  open_act event = elim (eqb_tells play.field field) [
    | inl same ↦
        let mine : turned_to play ≡ Some session = ap (field_of play.host) same.1 ∙ there in
        subst (λ (b : Bool). Told event b (turned_to play)) (sym same.0) (subst (Told event true) (sym mine) (own_event event same.1 (event_refusal session.state event)))
    | inr differ ↦
        subst (λ (b : Bool). Told event b (turned_to play)) (sym differ.0) (other_event event (turned_to play) (λ e. differ.1 (sym e)))
  ]

  open_differ : (same : Bool) → steps_left field (cond same play (record play { failed = play.failed + 1 })) entries
      ≡ answered_from field session (calls_left (cond same play (record play { failed = play.failed + 1 })) entries)
  open_differ true = more play session there
  open_differ false = more (record play { failed = play.failed + 1 }) session there

  open_expect : (text : List ℕ) (t : Option SessionState) → steps_left field (compared play text t) entries ≡ answered_from field session (calls_left (compared play text t) entries)
  open_expect text None = more play session there
  open_expect text (Some s) = open_differ (bytes_eq (whole_text s.state) text)

open_steps : (field : ℕ) (entries : List HostEntry) (play : Play) → Answers field entries play
open_steps field [] play session there = refl
open_steps field (Open line ∷ entries) play session there = open_add field entries (open_steps field entries) play session there (nat_le FIELDS (length play.host.sessions))
open_steps field (Field line other ∷ entries) play session there = open_steps field entries (record play { field = other }) session there
open_steps field (Preview line press ∷ entries) play session there = open_show field entries (open_steps field entries) play session there press (turned_to play)
open_steps field (Act line event ∷ entries) play session there = open_act field entries (open_steps field entries) play session there event
open_steps field (Expect line text ∷ entries) play session there = open_expect field entries (open_steps field entries) play session there text (turned_to play)

-- ---- a field that is not open yet

-- the field comes after the last one, and its printed steps are the steps that it returns once it is open
abbrev WillAnswer : ℕ → Tables → List HostEntry → Play → Type 0
WillAnswer field tables entries play = (opens : ℕ) → field ≡ suc (length play.host.sessions + opens) → play.host.tables ≡ tables
    → steps_left field play entries ≡ answered_from field (first_session tables) (calls_after (suc opens) (calls_left play entries))

module _ (field : ℕ) (tables : Tables) (entries : List HostEntry) (more : (play : Play) → WillAnswer field tables entries play) (play : Play) (over : play.host.tables ≡ tables) where
  begun_there : field ≡ suc (length play.host.sessions + 0) → field_of (with_new_field play.host) field ≡ Some (first_session tables)
  begun_there is =
      let place : field ≡ length play.host.sessions + 1 = omega (arith, is) in
      ap (field_of (with_new_field play.host)) place ∙ fields_begin play.host ∙ ap (λ (t : Tables). Some (first_session t)) over

  wider_count : (opens : ℕ) → field ≡ suc (length play.host.sessions + suc opens) → field ≡ suc (length (with_new_field play.host).sessions + opens)
  wider_count opens is = omega (arith, is, length-append play.host.sessions (first_session play.host.tables ∷ []))

  new_opened : (opens : ℕ) → field ≡ suc (length play.host.sessions + opens)
      → steps_left field (wider play) entries ≡ answered_from field (first_session tables) (calls_after opens (calls_left (wider play) entries))
  new_opened zero is =
      open_steps field entries (wider play) (first_session tables) (begun_there is)
      ∙ ap (answered_from field (first_session tables)) (sym (none_behind (calls_left (wider play) entries)))
  new_opened (suc opens) is = more (wider play) opens (wider_count opens is) over

  module _ (opens : ℕ) (is : field ≡ suc (length play.host.sessions + opens)) where
    new_add : field ≤ FIELDS → (full : Bool) → nat_le FIELDS (length play.host.sessions) ≡ full → steps_left field (cond full play (wider play)) entries
        ≡ answered_from field (first_session tables) (calls_after opens (calls_left (cond full play (wider play)) entries))
    new_add few true full = absurd (no_room play.host field opens is few full)
    new_add few false full = new_opened opens is

    new_unless : (refusal : Option Code) (next : Play) → field ≡ suc (length next.host.sessions + opens) → next.host.tables ≡ tables
        → rest_unless refusal (steps_left field next entries) ≡ answered_from field (first_session tables) (calls_after (suc opens) (rest_unless refusal (calls_left next entries)))
    new_unless None next place same = more next opens place same
    new_unless (Some code) next place same = refl

    new_show : (press : KeyPress) (t : Option SessionState) → rest_unless (refusal_in t (event.Key press)) (steps_left field (shown play t) entries)
        ≡ answered_from field (first_session tables) (calls_after (suc opens) (rest_unless (refusal_in t (event.Key press)) (calls_left (shown play t) entries)))
    new_show press None = more play opens is over
    new_show press (Some s) = new_unless (event_refusal s.state (event.Key press)) (shown play (Some s)) is over

    new_act : (event : Event) (b : Bool) (t : Option SessionState) → (b ≡ true → t ≡ None)
        → rest_unless (refusal_in t event) (cond b (event_steps event t) [] ++ steps_left field (stepped play event t) entries)
        ≡ answered_from field (first_session tables) (calls_after (suc opens) (rest_unless (refusal_in t event) (calls_left (stepped play event t) entries)))
    new_act event true None none = more play opens is over
    new_act event false None none = more play opens is over
    new_act event true (Some s) none = absurd (some_isnt (none refl))
      where
        some_isnt : Some s ≡ None → ⊥
        some_isnt same = cc
    new_act event false (Some s) none =
        new_unless (event_refusal s.state event) (stepped play event (Some s))
        (is ∙ ap (λ (n : ℕ). suc (n + opens)) (sym (with_field_count play.host play.field (after_step s event)))) (with_field_tables play.host play.field (after_step s event) ∙ over)

    new_differ : (same : Bool) → steps_left field (cond same play (record play { failed = play.failed + 1 })) entries
        ≡ answered_from field (first_session tables) (calls_after (suc opens) (calls_left (cond same play (record play { failed = play.failed + 1 })) entries))
    new_differ true = more play opens is over
    new_differ false = more (record play { failed = play.failed + 1 }) opens is over

    new_expect : (text : List ℕ) (t : Option SessionState) → steps_left field (compared play text t) entries
        ≡ answered_from field (first_session tables) (calls_after (suc opens) (calls_left (compared play text t) entries))
    new_expect text None = more play opens is over
    new_expect text (Some s) = new_differ (bytes_eq (whole_text s.state) text)

    -- if the number of the current field is the number of the field, there is no current session
    not_turned : eqb play.field field ≡ true → turned_to play ≡ None
    not_turned same = ap (field_of play.host) (eqb-true play.field field same) ∙ past_last play.host field opens is

-- this is true for each field number that a host can have
new_steps : (field : ℕ) (tables : Tables) → field ≤ FIELDS → (entries : List HostEntry) (play : Play) → WillAnswer field tables entries play
new_steps field tables few [] play opens is over = refl
new_steps field tables few (Open line ∷ entries) play opens is over =
    new_add field tables entries (new_steps field tables few entries) play over opens is few (nat_le FIELDS (length play.host.sessions)) refl
new_steps field tables few (Field line other ∷ entries) play opens is over = new_steps field tables few entries (record play { field = other }) opens is over
new_steps field tables few (Preview line press ∷ entries) play opens is over = new_show field tables entries (new_steps field tables few entries) play over opens is press (turned_to play)
new_steps field tables few (Act line event ∷ entries) play opens is over =
    new_act field tables entries (new_steps field tables few entries) play over opens is event (eqb play.field field) (turned_to play)
    (not_turned field tables entries (new_steps field tables few entries) play over opens is)
new_steps field tables few (Expect line text ∷ entries) play opens is over = new_expect field tables entries (new_steps field tables few entries) play over opens is text (turned_to play)

-- ---- the hosts after entries and after their calls

abbrev LeavesHost : List HostEntry → Play → Type 0
LeavesHost entries play = (after_entries play entries).host ≡ after_calls play.host (calls_left play entries)

module _ (entries : List HostEntry) (more : (play : Play) → LeavesHost entries play) (play : Play) where
  host_add : (full : Bool) → (after_entries (cond full play (wider play)) entries).host ≡ after_calls (cond full play.host (with_new_field play.host)) (calls_left (cond full play (wider play)) entries)
  host_add true = more play
  host_add false = more (wider play)

  host_unless : (refusal : Option Code) (next : Play) → next.host ≡ play.host
      → (play_unless refusal play (after_entries next entries)).host ≡ after_calls play.host (rest_unless refusal (calls_left next entries))
  host_unless None next same = more next ∙ ap (λ (h : HostState). after_calls h (calls_left next entries)) same
  host_unless (Some code) next same = refl

  host_show : (press : KeyPress) (t : Option SessionState) → (play_unless (refusal_in t (event.Key press)) play (after_entries (shown play t) entries)).host
      ≡ after_calls play.host (rest_unless (refusal_in t (event.Key press)) (calls_left (shown play t) entries))
  host_show press None = more play
  host_show press (Some s) = host_unless (event_refusal s.state (event.Key press)) (shown play (Some s)) refl

  host_event : (event : Event) (s : SessionState) → turned_to play ≡ Some s → (refusal : Option Code)
      → (play_unless refusal play (after_entries (stepped play event (Some s)) entries)).host
      ≡ after_calls (with_field play.field (gone_on s event (unless_refused refusal (happened s event))) play.host) (rest_unless refusal (calls_left (stepped play event (Some s)) entries))
  host_event event s there None = more (stepped play event (Some s))
  host_event event s there (Some code) = sym (with_same play.host play.field s there)

  host_act : (event : Event) (t : Option SessionState) → turned_to play ≡ t → (play_unless (refusal_in t event) play (after_entries (stepped play event t) entries)).host
      ≡ after_calls (turned play.field event t play.host) (rest_unless (refusal_in t event) (calls_left (stepped play event t) entries))
  host_act event None there = more play
  host_act event (Some s) there = host_event event s there (event_refusal s.state event)

  host_differ : (same : Bool) → (after_entries (cond same play (record play { failed = play.failed + 1 })) entries).host
      ≡ after_calls play.host (calls_left (cond same play (record play { failed = play.failed + 1 })) entries)
  host_differ true = more play
  host_differ false = more (record play { failed = play.failed + 1 })

  host_expect : (text : List ℕ) (t : Option SessionState) → (after_entries (compared play text t) entries).host ≡ after_calls play.host (calls_left (compared play text t) entries)
  host_expect text None = more play
  host_expect text (Some s) = host_differ (bytes_eq (whole_text s.state) text)

leaves_host : (entries : List HostEntry) (play : Play) → LeavesHost entries play
leaves_host [] play = refl
leaves_host (Open line ∷ entries) play = host_add entries (leaves_host entries) play (nat_le FIELDS (length play.host.sessions))
leaves_host (Field line other ∷ entries) play = leaves_host entries (record play { field = other })
leaves_host (Preview line press ∷ entries) play = host_show entries (leaves_host entries) play press (turned_to play)
leaves_host (Act line event ∷ entries) play = host_act entries (leaves_host entries) play event (turned_to play) refl
leaves_host (Expect line text ∷ entries) play = host_expect entries (leaves_host entries) play text (turned_to play)

-- ---- the session of a field that calls open

turned_count : (host : HostState) (field : ℕ) (event : Event) (t : Option SessionState) → length (turned field event t host).sessions ≡ length host.sessions
turned_count host field event None = refl
turned_count host field event (Some s) = with_field_count host field (gone_on s event (answer_to s event))

turned_tables : (host : HostState) (field : ℕ) (event : Event) (t : Option SessionState) → (turned field event t host).tables ≡ host.tables
turned_tables host field event None = refl
turned_tables host field event (Some s) = with_field_tables host field (gone_on s event (answer_to s event))

session_of_some : (a b : SessionState) → Some a ≡ Some b → a ≡ b
session_of_some a b same = cc

none_isnt : (session : SessionState) → None ≡ Some session → ⊥
none_isnt session same = cc

-- if a host has at most 64 fields, it still does after calls
few_opened : (host : HostState) (full : Bool) → nat_le FIELDS (length host.sessions) ≡ full → length host.sessions ≤ FIELDS
    → length (cond full host (with_new_field host)).sessions ≤ FIELDS
few_opened host true is few = few
few_opened host false is few =
    let room : length host.sessions < FIELDS = leb-false FIELDS (length host.sessions) is in
    omega (arith, room, length-append host.sessions (first_session host.tables ∷ []))

few_after : (calls : List HostCall) (host : HostState) → length host.sessions ≤ FIELDS → length (after_calls host calls).sessions ≤ FIELDS
few_after [] host few = few
few_after (Opens ∷ calls) host few =
    let full : Bool = nat_le FIELDS (length host.sessions) in
    few_after calls (cond full host (with_new_field host)) (few_opened host full refl few)
few_after (Turns field event ∷ calls) host few =
    few_after calls (turned field event (field_of host field) host) (subst (λ (n : ℕ). n ≤ FIELDS) (sym (turned_count host field event (field_of host field))) few)

few_there : (host : HostState) (place : ℕ) (session : SessionState) → length host.sessions ≤ FIELDS → field_of host (suc place) ≡ Some session → suc place ≤ FIELDS
few_there host place session few there =
    let within : place < length host.sessions = slice_get_within host.sessions place session there in
    omega (arith, within, few)

abbrev HasSession : ℕ → Tables → List HostCall → Type 0
HasSession field tables calls = (host : HostState) (opens : ℕ) (session : SessionState) → field ≡ suc (length host.sessions + opens) → host.tables ≡ tables
    → field_of (after_calls host calls) field ≡ Some session → session ≡ session_after field (first_session tables) (calls_after (suc opens) calls)

begins_session : (field : ℕ) (tables : Tables) (calls : List HostCall) → HasSession field tables calls → (host : HostState) (opens : ℕ) (session : SessionState)
    → field ≡ suc (length host.sessions + opens) → host.tables ≡ tables → field_of (after_calls (with_new_field host) calls) field ≡ Some session
    → session ≡ session_after field (first_session tables) (calls_after opens calls)
begins_session field tables calls more host zero session is over there =
    let place : field ≡ length host.sessions + 1 = omega (arith, is) in
    let begins : field_of (with_new_field host) field ≡ Some (first_session tables)
    = ap (field_of (with_new_field host)) place ∙ fields_begin host ∙ ap (λ (t : Tables). Some (first_session t)) over in
    session_of_some session (session_after field (first_session tables) calls) (sym there ∙ fields_are_apart (with_new_field host) field (first_session tables) calls begins)
    ∙ ap (session_after field (first_session tables)) (sym (none_behind calls))
begins_session field tables calls more host (suc opens) session is over there =
    more (with_new_field host) opens session (omega (arith, is, length-append host.sessions (first_session host.tables ∷ []))) over there

opens_session : (field : ℕ) (tables : Tables) (calls : List HostCall) → HasSession field tables calls → (host : HostState) (opens : ℕ) (session : SessionState)
    → field ≡ suc (length host.sessions + opens) → host.tables ≡ tables → field ≤ FIELDS → (full : Bool) → nat_le FIELDS (length host.sessions) ≡ full
    → field_of (after_calls (cond full host (with_new_field host)) calls) field ≡ Some session → session ≡ session_after field (first_session tables) (calls_after opens calls)
opens_session field tables calls more host opens session is over few true full there = absurd (no_room host field opens is few full)
opens_session field tables calls more host opens session is over few false full there = begins_session field tables calls more host opens session is over there

has_session : (field : ℕ) (tables : Tables) → field ≤ FIELDS → (calls : List HostCall) → HasSession field tables calls
has_session field tables few [] host opens session is over there = absurd (none_isnt session (sym (past_last host field opens is) ∙ there))
has_session field tables few (Opens ∷ calls) host opens session is over there =
    opens_session field tables calls (has_session field tables few calls) host opens session is over few (nat_le FIELDS (length host.sessions)) refl there
has_session field tables few (Turns other event ∷ calls) host opens session is over there =
    has_session field tables few calls (turned other event (field_of host other) host) opens session
    (is ∙ ap (λ (n : ℕ). suc (n + opens)) (sym (turned_count host other event (field_of host other)))) (turned_tables host other event (field_of host other) ∙ over) there

-- ---- each field of a play

pub fields_are_traces : (tables : Tables) (entries : List HostEntry) → FieldsAreTraces tables entries
fields_are_traces tables entries zero session there = absurd (none_isnt session there)
fields_are_traces tables entries (suc opens) session there =
    let place : suc opens ≡ suc (0 + opens) = omega arith in
    let host : HostState = (first_play tables).host in
    let behind : field_of (after_calls host (calls_of tables entries)) (suc opens) ≡ Some session
    = ap (λ (h : HostState). field_of h (suc opens)) (sym (leaves_host entries (first_play tables))) ∙ there in
    let few : suc opens ≤ FIELDS
    = few_there (after_calls host (calls_of tables entries)) opens session (few_after (calls_of tables entries) host (omega arith)) behind in
    let left : session ≡ session_after (suc opens) (first_session tables) (calls_since (suc opens) tables entries)
    = has_session (suc opens) tables few (calls_of tables entries) host opens session place refl behind in
    record {
      steps = new_steps (suc opens) tables few entries (first_play tables) opens place refl
          ∙ sym (steps_are_those_alone (suc opens) tables (calls_since (suc opens) tables entries));
      left = left;
      state = ap (λ (s : SessionState). s.state) left ∙ states_are_those_alone (suc opens) tables (calls_since (suc opens) tables entries);
    }
