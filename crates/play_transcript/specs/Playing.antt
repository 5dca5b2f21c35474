-- The printed text of a script, entry by entry.
use Rattle.std.specs.Prelude.{◌≡◌, ℕ, ◌+◌, ◌<◌, length, if◌then◌else◌, List, [], ◌++◌, Result, Ok, Err}
use Rattle.std.specs.List.{All}
use Rattle.std.specs.Str.{bytes_eq}
use Rattle.kmn_base.specs.declared.codes.Code.{Code}
use Rattle.kmn_base.specs.declared.events.Event.{Event}
use Rattle.kmn_base.specs.Lists.{characters, window}
use Rattle.rule_model.specs.declared.script.Entry.{Entry}
use Rattle.rule_model.specs.declared.script.Entry.TheVariants.{Act, Expect}
use Rattle.rule_model.specs.Act.{one_more}
use Rattle.rule_model.specs.Event.{State, Happening, whole_text, event_of}
use Rattle.rule_model.specs.Lines.{event_line, text_line, end_line}
use Rattle.rule_model.specs.Tab.{tab}
use Rattle.rule_model.specs.Trace.{Steps, steps_from}
use Rattle.rule_model.specs.Transcript.{refused_event_line, expect_line, events_of, lines_from, step_lines}
use Rattle.play_session.specs.declared.changes.Change.{Change}
use Rattle.play_session.specs.declared.session.Step.{Step}
use Rattle.play_session.specs.Printed.{change_lines}
use Rattle.play_session.specs.Session.{SessionState, after_step}
use Rattle.play_transcript.specs.Ends.{end_after}
use Rattle.play_transcript.specs.Failures.{failures_from}
use Rattle.play_transcript.specs.declared.playing.Counts.{Counts}
use Rattle.play_transcript.specs.declared.playing.Played.{Played}
use Rattle.play_transcript.specs.declared.playing.Played.TheVariants as played
use Rattle.play_transcript.specs.declared.playing.PlayEnd.{PlayEnd}

-- the counts before the first entry
abbrev pub no_counts : Counts
no_counts = record { number = 0; events = 0; failed = 0 }

-- the steps of the remaining entries of a script from a session on
abbrev pub steps_left : SessionState → List Entry → Steps
steps_left session entries = steps_from (tab session.tables) (one_more session.number) (events_of entries) session.state

-- the lines of an event: what happened and what it changed, each line with this front; or its refusal, without a front
abbrev pub happening_lines : (front : List ℕ) → State → ℕ → Result Happening Code → List ℕ
happening_lines front before number (Ok happened) = step_lines front before (record { number = number; happened = happened })
happening_lines front before number (Err code) = refused_event_line number code

abbrev pub event_lines : (front : List ℕ) → SessionState → Event → List ℕ
event_lines front session event = happening_lines front session.state (one_more session.number) (event_of (tab session.tables) session.state event)

-- the lines of a step by the session after the step
abbrev pub happened_lines : (front : List ℕ) → SessionState → Step → List ℕ
happened_lines front session step = (front ++ event_line step.number step.outcome session.inserted (window session.state.left)) ++ change_lines front session

-- the changes of a session are changes of its stores, which include the layer and the platform
abbrev pub AreOfStores : SessionState → Type 0
AreOfStores session = All (λ (change : Change). change.store < length (tab session.tables).stores) session.changes

-- the line of an expected text, if it differs
abbrev pub expect_lines : State → ℕ → List ℕ → List ℕ
expect_lines state line text = if bytes_eq (whole_text state) text then [] else expect_line line

-- the lines of an entry
abbrev pub entry_lines : SessionState → Entry → List ℕ
entry_lines session (Act line event) = event_lines [] session event
entry_lines session (Expect line text) = expect_lines session.state line text

-- the counts after an event, and after an expected text
abbrev pub event_counted : SessionState → Counts → Counts
event_counted session counts = record { number = one_more session.number; events = counts.events + 1; failed = counts.failed }

abbrev pub text_counted : State → List ℕ → Counts → Counts
text_counted state text counts = if bytes_eq (whole_text state) text then counts else record counts { failed = counts.failed + 1 }

-- an event that happens results in the session after its step, and the play continues; a refused event ends the play
abbrev pub PlaysBy : SessionState → SessionState → Counts → Event → Result Happening Code → Played → Type 0
PlaysBy before after counts event (Ok happened) (played.On next) = (after ≡ after_step before event) × (next ≡ event_counted before counts)
PlaysBy before after counts event (Ok happened) played.Refused = ⊥
PlaysBy before after counts event (Err code) (played.On next) = ⊥
PlaysBy before after counts event (Err code) played.Refused = Unit {0}

abbrev pub PlaysEvent : SessionState → SessionState → Counts → Event → Played → Type 0
PlaysEvent before after counts event end = PlaysBy before after counts event (event_of (tab before.tables) before.state event) end

-- an expected text does not change the session
abbrev pub PlaysExpect : SessionState → SessionState → Counts → List ℕ → Played → Type 0
PlaysExpect before after counts text (played.On next) = (after ≡ before) × (next ≡ text_counted before.state text counts)
PlaysExpect before after counts text played.Refused = ⊥

-- the effect of an entry: of an event or of an expected text
abbrev pub Plays : SessionState → SessionState → Counts → Entry → Played → Type 0
Plays before after counts (Act line event) end = PlaysEvent before after counts event end
Plays before after counts (Expect line text) end = PlaysExpect before after counts text end

-- the two last lines: the text, and the counts
abbrev pub end_lines : SessionState → Counts → List ℕ
end_lines session counts = text_line (characters session.state.left) session.state.right ++ end_line counts.events counts.failed
