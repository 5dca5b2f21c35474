-- The state of a play of a script for several fields, and the effect of an entry on it.
use Rattle.std.specs.Prelude.{ℕ, ◌+◌, nat_le, if◌then◌else◌, List, [], ◌∷◌, length, Option, Some, None}
use Rattle.std.specs.Str.{bytes_eq}
use Rattle.kmn_base.specs.declared.codes.Code.{Code}
use Rattle.kmn_base.specs.declared.events.Event.{Event}
use Rattle.kmn_base.specs.declared.events.Event.TheVariants as event
use Rattle.kmn_base.specs.declared.limits.TheConstants.{FIELDS}
use Rattle.rule_model.specs.declared.tables.Tables.{Tables}
use Rattle.rule_model.specs.Act.{one_more}
use Rattle.rule_model.specs.Event.{whole_text, event_refusal}
use Rattle.play_session.specs.Session.{SessionState, after_step}
use Rattle.text_host.specs.Host.{first_host, field_of, with_field, with_new_field}
use Rattle.text_host.specs.declared.entries.HostEntry.{HostEntry}
use Rattle.text_host.specs.declared.entries.HostEntry.TheVariants.{Open, Field, Preview, Act, Expect}
use Rattle.play_transcript.specs.declared.host_playing.Play.{Play}

-- the play before its first entry: no field is open
abbrev pub first_play : Tables → Play
first_play tables = record { host = first_host tables; field = 0; asked = 0; events = 0; failed = 0 }

-- the session of the current field; in a script that was read, no entry needs a session that does not exist
abbrev pub turned_to : Play → Option SessionState
turned_to play = field_of play.host play.field

-- the code with which an event is refused in a field; if there is no such field, no event is refused
abbrev pub refusal_in : Option SessionState → Event → Option Code
refusal_in None event = None
refusal_in (Some session) event = event_refusal session.state event

-- the code with which an entry is refused; a preview is refused if its key event would be
abbrev pub entry_refusal : Play → HostEntry → Option Code
entry_refusal play (Open line) = None
entry_refusal play (Field line field) = None
entry_refusal play (Preview line press) = refusal_in (turned_to play) (event.Key press)
entry_refusal play (Act line event) = refusal_in (turned_to play) event
entry_refusal play (Expect line text) = None

-- the play after a field is opened after the others and made current, unless the host is full
abbrev pub opened : Play → Play
opened play =
    if nat_le FIELDS (length play.host.sessions) then play
    else record play { host = with_new_field play.host; field = length play.host.sessions + 1 }

-- the play after a preview is shown in the current field
abbrev pub shown : Play → Option SessionState → Play
shown play None = play
shown play (Some session) = record play { asked = one_more play.asked }

-- the play after an event is done in the current field
abbrev pub stepped : Play → Event → Option SessionState → Play
stepped play event None = play
stepped play event (Some session) =
    record play { host = with_field play.field (after_step session event) play.host; asked = one_more play.asked; events = play.events + 1 }

-- the play after the whole text of the current field is compared with an expected text
abbrev pub compared : Play → List ℕ → Option SessionState → Play
compared play text None = play
compared play text (Some session) = if bytes_eq (whole_text session.state) text then play else record play { failed = play.failed + 1 }

-- the play after an entry that isn't refused
abbrev pub after_entry : Play → HostEntry → Play
after_entry play (Open line) = opened play
after_entry play (Field line field) = record play { field = field }
after_entry play (Preview line press) = shown play (turned_to play)
after_entry play (Act line event) = stepped play event (turned_to play)
after_entry play (Expect line text) = compared play text (turned_to play)

-- the list for the entries after an entry, which is empty if the entry is refused
abbrev pub rest_unless : {X : Type 0} → Option Code → List X → List X
rest_unless None rest = rest
rest_unless (Some code) rest = []

-- the play after entries, or after the entries before the first refused one
abbrev pub play_unless : Option Code → Play → Play → Play
play_unless None before after = after
play_unless (Some code) before after = before

abbrev pub after_entries : Play → List HostEntry → Play
after_entries play [] = play
after_entries play (entry ∷ entries) = play_unless (entry_refusal play entry) play (after_entries (after_entry play entry) entries)
