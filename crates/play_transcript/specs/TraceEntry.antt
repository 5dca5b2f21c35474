-- The printed text of a traced script, entry by entry.
use Rattle.std.specs.Prelude.{◌≡◌, ℕ, ◌+◌, List, [], Result, Ok, Err}
use Rattle.std.specs.List.{All, Contains}
use Rattle.kmn_base.specs.declared.codes.Code.{Code}
use Rattle.kmn_base.specs.declared.events.Event.{Event}
use Rattle.rule_model.specs.declared.script.Entry.{Entry}
use Rattle.rule_model.specs.declared.script.Entry.TheVariants.{Act, Expect}
use Rattle.rule_model.specs.declared.tables.Tables.{Tables}
use Rattle.rule_model.specs.Act.{one_more}
use Rattle.rule_model.specs.ChosenLines.{chosen}
use Rattle.rule_model.specs.Event.{State, Happening, event_of}
use Rattle.rule_model.specs.Tab.{tab}
use Rattle.rule_model.specs.Transcript.{events_of, refused_event_line}
use Rattle.rule_trace.specs.declared.coverage.Hit.{Hit}
use Rattle.rule_trace.specs.Coverage.{with_lines}
use Rattle.play_session.specs.Session.{SessionState, after_step}
use Rattle.play_transcript.specs.Playing.{steps_left}
use Rattle.play_transcript.specs.TraceEnds.{end_after}
use Rattle.play_transcript.specs.TraceText.{fired_line, fired_from}
use Rattle.play_transcript.specs.declared.following.TraceCounts.{TraceCounts}
use Rattle.play_transcript.specs.declared.following.Followed.{Followed}
use Rattle.play_transcript.specs.declared.following.Followed.TheVariants as followed
use Rattle.play_transcript.specs.declared.following.TraceEnd.{TraceEnd}

-- each line that an event can choose with these tables is one of these lines
abbrev pub Covers : Tables → List ℕ → Type 0
Covers tables lines = (state : State) (event : Event) → All (Contains lines) (chosen (tab tables) state event)

-- the counts before the first entry
abbrev pub no_counts : TraceCounts
no_counts = record { number = 0; events = 0 }

-- the lines that an event chooses in a session
abbrev pub lines_chosen : SessionState → Event → List ℕ
lines_chosen session event = chosen (tab session.tables) session.state event

-- the line of an event: the lines that it chose, or its refusal
abbrev pub happening_line : ℕ → List ℕ → Result Happening Code → List ℕ
happening_line number lines (Ok happened) = fired_line number lines
happening_line number lines (Err code) = refused_event_line number code

abbrev pub event_line : SessionState → Event → List ℕ
event_line session event = happening_line (one_more session.number) (lines_chosen session event) (event_of (tab session.tables) session.state event)

-- the line of an entry; an expected text has none
abbrev pub entry_line : SessionState → Entry → List ℕ
entry_line session (Act line event) = event_line session event
entry_line session (Expect line text) = []

-- the counts after an event
abbrev pub event_counted : SessionState → TraceCounts → TraceCounts
event_counted session counts = record { number = one_more session.number; events = counts.events + 1 }

-- an event that happens results in the session after its step and counts its lines, and the script continues; a refused event ends
-- the script
abbrev pub FollowsBy : SessionState → SessionState → List Hit → List Hit → TraceCounts → Event → Result Happening Code → Followed → Type 0
FollowsBy before after hits hits_after counts event (Ok happened) (followed.On next) =
    (after ≡ after_step before event) × (hits_after ≡ with_lines (lines_chosen before event) hits) × (next ≡ event_counted before counts)
FollowsBy before after hits hits_after counts event (Ok happened) followed.Refused = ⊥
FollowsBy before after hits hits_after counts event (Err code) (followed.On next) = ⊥
FollowsBy before after hits hits_after counts event (Err code) followed.Refused = Unit {0}

abbrev pub FollowsEvent : SessionState → SessionState → List Hit → List Hit → TraceCounts → Event → Followed → Type 0
FollowsEvent before after hits hits_after counts event end =
    FollowsBy before after hits hits_after counts event (event_of (tab before.tables) before.state event) end

-- an expected text changes neither the session nor the hits nor the counts
abbrev pub FollowsExpect : SessionState → SessionState → List Hit → List Hit → TraceCounts → Followed → Type 0
FollowsExpect before after hits hits_after counts (followed.On next) = (after ≡ before) × (hits_after ≡ hits) × (next ≡ counts)
FollowsExpect before after hits hits_after counts followed.Refused = ⊥

-- the effect of an entry: of an event or of an expected text
abbrev pub Follows : SessionState → SessionState → List Hit → List Hit → TraceCounts → Entry → Followed → Type 0
Follows before after hits hits_after counts (Act line event) end = FollowsEvent before after hits hits_after counts event end
Follows before after hits hits_after counts (Expect line text) end = FollowsExpect before after hits hits_after counts end
