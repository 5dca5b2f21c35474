-- The state of a host with several fields, and the effect of a call on it.
use Rattle.std.specs.Prelude.{◌≡◌, IsSomeAnd, ℕ, zero, suc, nat_le, if◌then◌else◌, List, [], ◌∷◌, ◌++◌, length, Option, Some, None, option_map, slice_get, slice_set}
use Rattle.std.specs.List.{All}
use Rattle.kmn_base.specs.declared.codes.Code.{Code}
use Rattle.kmn_base.specs.declared.codes.Code.TheVariants.{E1, E2}
use Rattle.kmn_base.specs.declared.events.Event.{Event}
use Rattle.kmn_base.specs.declared.events.Event.TheVariants as event
use Rattle.kmn_base.specs.declared.keys.KeyPress.{KeyPress}
use Rattle.kmn_base.specs.declared.limits.TheConstants.{FIELDS}
use Rattle.rule_model.specs.declared.tables.Tables.{Tables}
use Rattle.rule_model.specs.Event.{event_refusal}
use Rattle.rule_engine.specs.declared.engine.Preview.{Preview}
use Rattle.play_session.specs.declared.session.Step.{Step}
use Rattle.play_session.specs.declared.session.StepError.{StepError}
use Rattle.play_session.specs.declared.session.StepError.TheVariants as step_error
use Rattle.play_session.specs.Answers.{step_of}
use Rattle.play_session.specs.Session.{SessionState, after_step, first_session, happened}
use Rattle.text_host.specs.declared.host.HostError.{HostError}
use Rattle.text_host.specs.declared.host.HostError.TheVariants as error

-- a host: the tables of its file, and the sessions of its fields in order
pub record HostState : Type 0 where
  pub tables : Tables
  pub sessions : List SessionState

-- all sessions have these tables
abbrev pub AreOver : Tables → List SessionState → Type 0
AreOver tables sessions = All (λ (session : SessionState). session.tables ≡ tables) sessions

-- a host before the first call
abbrev pub first_host : Tables → HostState
first_host tables = record { tables = tables; sessions = [] }

-- the session of a field; fields are numbered from 1
abbrev pub field_of : HostState → ℕ → Option SessionState
field_of host zero = None
field_of host (suc place) = slice_get host.sessions place

-- a host with the session of one field replaced
abbrev pub with_field : ℕ → SessionState → HostState → HostState
with_field zero session host = host
with_field (suc place) session host = record host { sessions = slice_set host.sessions place session }

-- a host with one more field, which is before its first event
abbrev pub with_new_field : HostState → HostState
with_new_field host = record host { sessions = host.sessions ++ first_session host.tables ∷ [] }

-- the reason why a call is refused: there is no such field, there are too many fields, or the event is refused with a code
pub data HostRefusal : Type 0 where
  NoField : HostRefusal
  Full : HostRefusal
  Refused : Code → HostRefusal

-- the refusal that an error reports; running out of memory is not a refusal
abbrev pub refusal_of : HostError → Option HostRefusal
refusal_of error.NoField = Some NoField
refusal_of error.Full = Some Full
refusal_of error.Place = Some (Refused E1)
refusal_of error.Length = Some (Refused E2)
refusal_of error.Memory = None

-- the error of a host for an error of a session
abbrev pub of_step : StepError → HostError
of_step step_error.Place = error.Place
of_step step_error.Length = error.Length
of_step step_error.Memory = error.Memory

-- a new field is refused exactly where the host has 64 fields
abbrev pub add_refusal : HostState → Option HostRefusal
add_refusal host = if nat_le FIELDS (length host.sessions) then Some Full else None

-- an event is refused if there is no such field, and otherwise if the session of the field refuses it
abbrev pub step_refusal : Option SessionState → Event → Option HostRefusal
step_refusal None event = Some NoField
step_refusal (Some session) event = option_map Refused (event_refusal session.state event)

-- a field's preview of a key press has the outcome and the inserted text of that press
pub record IsForeseen (host : HostState) (field : ℕ) (press : KeyPress) (preview : Preview) : Type 0 where
  pub outcome : IsSomeAnd (field_of host field) (λ session. preview.outcome ≡ (happened session (event.Key press)).outcome)
  pub inserted : IsSomeAnd (field_of host field) (λ session. preview.inserted ≡ (happened session (event.Key press)).inserted)

-- an event in a field returns this step and results in this host
pub record IsDone (host after : HostState) (field : ℕ) (event : Event) (step : Step) : Type 0 where
  pub answer : IsSomeAnd (field_of host field) (λ session. step ≡ step_of session event)
  pub leaves : IsSomeAnd (field_of host field) (λ session. after ≡ with_field field (after_step session event) host)

-- a key event directly after its preview has the previewed outcome, and the field's session inserted the previewed text
abbrev pub PreviewsComeTrue : Type 0
PreviewsComeTrue = (host after : HostState) (field : ℕ) (press : KeyPress) (preview : Preview) (step : Step)
    → IsForeseen host field press preview → IsDone host after field (event.Key press) step
    → (step.outcome ≡ preview.outcome) × IsSomeAnd (field_of after field) (λ session. session.inserted ≡ preview.inserted)
