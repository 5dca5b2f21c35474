-- The calls that a play makes on its host, and the steps that it prints of a field.
use Rattle.std.specs.Prelude.{ℕ, zero, suc, nat_eq, if◌then◌else◌, List, [], ◌∷◌, ◌++◌, Option, Some, None}
use Rattle.kmn_base.specs.declared.events.Event.{Event}
use Rattle.rule_model.specs.declared.tables.Tables.{Tables}
use Rattle.rule_model.specs.Trace.{Step}
use Rattle.play_session.specs.Session.{SessionState}
use Rattle.text_host.specs.Alone.{HostCall, Opens, Turns}
use Rattle.text_host.specs.declared.entries.HostEntry.{HostEntry}
use Rattle.text_host.specs.declared.entries.HostEntry.TheVariants.{Open, Field, Preview, Act, Expect}
use Rattle.play_transcript.specs.declared.host_playing.Play.{Play}
use Rattle.play_transcript.specs.HostPlaying.{first_play, turned_to, entry_refusal, after_entry, rest_unless}
use Rattle.play_transcript.specs.HostText.{step_in}

-- the calls of an entry: a new field, or an event; a preview does not change the host
abbrev pub entry_calls : Play → HostEntry → List HostCall
entry_calls play (Open line) = Opens ∷ []
entry_calls play (Field line field) = []
entry_calls play (Preview line press) = []
entry_calls play (Act line event) = Turns play.field event ∷ []
entry_calls play (Expect line text) = []

-- the calls of a play up to the first refused entry, including the call of that entry
abbrev pub calls_left : Play → List HostEntry → List HostCall
calls_left play [] = []
calls_left play (entry ∷ entries) = entry_calls play entry ++ rest_unless (entry_refusal play entry) (calls_left (after_entry play entry) entries)

abbrev pub calls_of : Tables → List HostEntry → List HostCall
calls_of tables entries = calls_left (first_play tables) entries

-- the calls after a number of calls that open a field
abbrev pub calls_after : ℕ → List HostCall → List HostCall
calls_after opens [] = []
calls_after zero (call ∷ calls) = call ∷ calls
calls_after (suc opens) (Opens ∷ calls) = calls_after opens calls
calls_after (suc opens) (Turns field event ∷ calls) = calls_after (suc opens) calls

-- the steps of a field whose lines an entry prints if it is not refused
abbrev pub event_steps : Event → Option SessionState → List Step
event_steps event None = []
event_steps event (Some session) = step_in session event ∷ []

abbrev pub entry_steps : ℕ → Play → HostEntry → List Step
entry_steps field play (Open line) = []
entry_steps field play (Field line other) = []
entry_steps field play (Preview line press) = []
entry_steps field play (Act line event) = if nat_eq play.field field then event_steps event (turned_to play) else []
entry_steps field play (Expect line text) = []

-- the steps of a field whose lines a play prints
abbrev pub steps_left : ℕ → Play → List HostEntry → List Step
steps_left field play [] = []
steps_left field play (entry ∷ entries) =
    rest_unless (entry_refusal play entry) (entry_steps field play entry ++ steps_left field (after_entry play entry) entries)

abbrev pub steps_of : ℕ → Tables → List HostEntry → List Step
steps_of field tables entries = steps_left field (first_play tables) entries
