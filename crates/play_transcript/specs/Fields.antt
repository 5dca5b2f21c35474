-- Each field of a play does what it would do without the other fields.
use Rattle.std.specs.Prelude.{◌≡◌, ℕ, List, Some}
use Rattle.kmn_base.specs.declared.events.Event.{Event}
use Rattle.rule_model.specs.declared.tables.Tables.{Tables}
use Rattle.rule_model.specs.Tab.{tab}
use Rattle.rule_model.specs.Trace.{trace}
use Rattle.play_session.specs.Session.{SessionState, first_session}
use Rattle.text_host.specs.Host.{field_of}
use Rattle.text_host.specs.Alone.{HostCall, alone_from, session_after, state_behind}
use Rattle.text_host.specs.declared.entries.HostEntry.{HostEntry}
use Rattle.play_transcript.specs.HostPlaying.{first_play, after_entries}
use Rattle.play_transcript.specs.HostCalls.{calls_of, calls_after, steps_of}

-- the calls of a play after the call that opens a field
abbrev pub calls_since : ℕ → Tables → List HostEntry → List HostCall
calls_since field tables entries = calls_after field (calls_of tables entries)

-- the events of a field that were not refused, in order
abbrev pub alone : ℕ → Tables → List HostEntry → List Event
alone field tables entries = alone_from field (first_session tables) (calls_since field tables entries)

-- the printed steps of a field are the steps of the trace of the field's own events; they result in the session of the field, which
-- represents the state after the last of them
pub record IsTrace (tables : Tables) (entries : List HostEntry) (field : ℕ) (session : SessionState) : Type 0 where
  pub steps : steps_of field tables entries ≡ (trace (tab tables) (alone field tables entries)).done
  pub left : session ≡ session_after field (first_session tables) (calls_since field tables entries)
  pub state : session.state ≡ state_behind (trace (tab tables) (alone field tables entries)).first (trace (tab tables) (alone field tables entries)).done

-- this is true for each field that was opened, whatever the entries are
abbrev pub FieldsAreTraces : Tables → List HostEntry → Type 0
FieldsAreTraces tables entries = (field : ℕ) (session : SessionState)
    → field_of (after_entries (first_play tables) entries).host field ≡ Some session → IsTrace tables entries field session
