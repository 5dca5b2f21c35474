-- The printed text of a script for several fields, entry by entry, and how its play ends.
use Rattle.std.specs.Prelude.{ℕ, ◌+◌, if◌then◌else◌, List, [], ◌∷◌, ◌++◌, map, codes, Option, Some, None}
use Rattle.std.specs.List.{concat}
use Rattle.std.specs.Fmt.{decimal}
use Rattle.std.specs.Str.{bytes_eq}
use Rattle.kmn_base.specs.Lists.{characters}
use Rattle.kmn_base.specs.declared.codes.Code.{Code}
use Rattle.kmn_base.specs.declared.events.Event.{Event}
use Rattle.kmn_base.specs.declared.events.Event.TheVariants as event
use Rattle.kmn_base.specs.declared.events.Outcome.{Outcome}
use Rattle.kmn_base.specs.declared.keys.KeyPress.{KeyPress}
use Rattle.rule_model.specs.declared.tables.Tables.{Tables}
use Rattle.rule_model.specs.Act.{one_more}
use Rattle.rule_model.specs.Event.{whole_text}
use Rattle.rule_model.specs.Lines.{hexadecimal, joined, counts_text, text_line, end_line}
use Rattle.rule_model.specs.Trace.{Step}
use Rattle.rule_model.specs.Transcript.{step_lines, expect_line, refused_event_line}
use Rattle.play_session.specs.Session.{SessionState, happened}
use Rattle.play_transcript.specs.Ends.{end_after}
use Rattle.play_transcript.specs.declared.playing.PlayEnd.{PlayEnd}
use Rattle.play_transcript.specs.declared.playing.PlayEnd.TheVariants as ended
use Rattle.text_host.specs.declared.entries.HostEntry.{HostEntry}
use Rattle.text_host.specs.declared.entries.HostEntry.TheVariants.{Open, Field, Preview, Act, Expect}
use Rattle.play_transcript.specs.declared.host_playing.Play.{Play}
use Rattle.play_transcript.specs.HostPlaying.{first_play, turned_to, refusal_in, entry_refusal, after_entry, rest_unless}

-- the text at the front of each line of a field: `f`, the number of the field and a space
abbrev pub front : ℕ → List ℕ
front field = codes "f" ++ (decimal field ++ codes " ")

-- the step of an event in a session
abbrev pub step_in : SessionState → Event → Step
step_in session event = record { number = one_more session.number; happened = happened session event }

-- the line of what a key press would do: the line of an event without its number and without the cached context
abbrev pub preview_line : Outcome → List ℕ → List ℕ
preview_line outcome inserted = concat (
    codes "preview del=" ∷ decimal outcome.delete
    ∷ codes " ins=" ∷ joined (map hexadecimal inserted)
    ∷ counts_text outcome
    ∷ codes "\n" ∷ [])

-- in a field, the lines of an event, of a preview, and of an expected text if it differs; no lines if there is no such field
abbrev pub event_text : ℕ → Event → Option SessionState → List ℕ
event_text field event None = []
event_text field event (Some session) = step_lines (front field) session.state (step_in session event)

abbrev pub preview_text : ℕ → KeyPress → Option SessionState → List ℕ
preview_text field press None = []
preview_text field press (Some session) =
    front field ++ preview_line (happened session (event.Key press)).outcome (happened session (event.Key press)).inserted

abbrev pub expect_text : ℕ → ℕ → List ℕ → Option SessionState → List ℕ
expect_text field line text None = []
expect_text field line text (Some session) = if bytes_eq (whole_text session.state) text then [] else (front field ++ expect_line line)

-- the lines of an event or a preview, or its refusal with its number, without the front of the field
abbrev pub text_or_refusal : Option Code → ℕ → List ℕ → List ℕ
text_or_refusal None number text = text
text_or_refusal (Some code) number text = refused_event_line number code

-- the lines of an event and of a preview in the current field; the number of a refusal counts those of all fields
abbrev pub event_lines : Play → Event → List ℕ
event_lines play event =
    text_or_refusal (refusal_in (turned_to play) event) (one_more play.asked) (event_text play.field event (turned_to play))

abbrev pub preview_lines : Play → KeyPress → List ℕ
preview_lines play press =
    text_or_refusal (refusal_in (turned_to play) (event.Key press)) (one_more play.asked) (preview_text play.field press (turned_to play))

-- the lines of an entry
abbrev pub entry_lines : Play → HostEntry → List ℕ
entry_lines play (Open line) = []
entry_lines play (Field line field) = []
entry_lines play (Preview line press) = preview_lines play press
entry_lines play (Act line event) = event_lines play event
entry_lines play (Expect line text) = expect_text play.field line text (turned_to play)

-- the line of the text of a field, and the lines of the texts of fields from this field number on
abbrev pub field_text : ℕ → SessionState → List ℕ
field_text field session = front field ++ text_line (characters session.state.left) session.state.right

abbrev pub field_texts : ℕ → List SessionState → List ℕ
field_texts field [] = []
field_texts field (session ∷ sessions) = field_text field session ++ field_texts (field + 1) sessions

-- the last lines: the text of each field, and the counts; a preview does not count as an event
abbrev pub end_lines : Play → List ℕ
end_lines play = field_texts 1 play.host.sessions ++ end_line play.events play.failed

-- the lines that remain to be printed for a play
abbrev pub lines_left : Play → List HostEntry → List ℕ
lines_left play [] = end_lines play
lines_left play (entry ∷ entries) = entry_lines play entry ++ rest_unless (entry_refusal play entry) (lines_left (after_entry play entry) entries)

-- how the rest of a play ends: with a refusal, else with expected texts that differed, else well
abbrev pub end_unless : Option Code → PlayEnd → PlayEnd
end_unless None end = end
end_unless (Some code) end = ended.Refused

abbrev pub end_left : Play → List HostEntry → PlayEnd
end_left play [] = end_after None play.failed
end_left play (entry ∷ entries) = end_unless (entry_refusal play entry) (end_left (after_entry play entry) entries)

-- the text that the tables of a file print for a script for several fields
unfoldable pub host_text : Tables → List HostEntry → List ℕ
host_text tables entries = lines_left (first_play tables) entries

-- how the play of a script for several fields ends
unfoldable pub host_end : Tables → List HostEntry → PlayEnd
host_end tables entries = end_left (first_play tables) entries
