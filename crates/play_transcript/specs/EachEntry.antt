-- The play after an entry and the lines that the entry prints, as the functions that play it produce them.
use Rattle.std.specs.Prelude.{◌≡◌, ℕ, true, Bool, List, [], Option, Some, None}
use Rattle.std.specs.List.{All}
use Rattle.std.specs.Str.{bytes_eq}
use Rattle.kmn_base.specs.declared.codes.Code.{Code}
use Rattle.rule_model.specs.Event.{whole_text}
use Rattle.play_session.specs.declared.session.Step.{Step}
use Rattle.play_session.specs.Printed.{IsSession}
use Rattle.play_session.specs.Session.{SessionState}
use Rattle.play_transcript.specs.Playing.{happened_lines, AreOfStores}
use Rattle.text_host.specs.Host.{HostState, HostRefusal, NoField, Full, Refused}
use Rattle.text_host.specs.declared.entries.HostEntry.{HostEntry}
use Rattle.play_transcript.specs.declared.host_playing.Play.{Play}
use Rattle.play_transcript.specs.declared.host_playing.Played.{Played}
use Rattle.play_transcript.specs.declared.host_playing.Played.TheVariants as played
use Rattle.play_transcript.specs.HostPlaying.{entry_refusal, after_entry}
use Rattle.play_transcript.specs.HostText.{front}

-- the session of each field has the options of its tables
abbrev pub AreSessions : HostState → Type 0
AreSessions host = All IsSession host.sessions

-- an entry that is not refused results in this play, which continues; a refused entry ends the play
abbrev pub PlaysBy : Option Code → Play → Play → Played → Type 0
PlaysBy None next after played.On = after ≡ next
PlaysBy None next after played.Refused = ⊥
PlaysBy (Some code) next after played.On = ⊥
PlaysBy (Some code) next after played.Refused = Unit {0}

-- the effect of playing an entry on a play
abbrev pub Plays : Play → Play → HostEntry → Played → Type 0
Plays before after entry end = PlaysBy (entry_refusal before entry) (after_entry before entry) after end

-- the code of an event that a host refuses; a missing field and a full host have no code
abbrev pub code_in : HostRefusal → Option Code
code_in NoField = None
code_in Full = None
code_in (Refused code) = Some code

-- the effect of an optional code on a play: a code ends it
abbrev pub played_by : Option Code → Played
played_by None = played.On
played_by (Some code) = played.Refused

-- the lines of a step by the session of its field after the step, if there is such a field
abbrev pub told_lines : ℕ → Step → Option SessionState → List ℕ
told_lines field step None = []
told_lines field step (Some session) = happened_lines (front field) session step

-- the changes of the session of a field are changes of its stores, if there is such a field
abbrev pub ReportsStoreFault : Option SessionState → Type 0
ReportsStoreFault None = Unit {0}
ReportsStoreFault (Some session) = AreOfStores session

-- whether a text is the whole text of a field; true if there is no such field
abbrev pub is_text_of : List ℕ → Option SessionState → Bool
is_text_of text None = true
is_text_of text (Some session) = bytes_eq (whole_text session.state) text
