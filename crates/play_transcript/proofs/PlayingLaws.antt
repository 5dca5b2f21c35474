-- The content of a sink after an entry, if the play continues and if it stops.
use Rattle.std.proofs.Common.{◌≡◌, ℕ, ◌+◌, ◌<◌, ◌≤◌, Bool, true, false, if◌then◌else◌, ◌&&◌, List, [], ◌∷◌, ◌++◌, length, take, drop, get_or, Option, Some, None, Result, Ok, Err, refl, ap, sym, ◌∙◌, subst, arith, add-one, drop-cons, append-nil}
use Rattle.std.specs.Prelude.{flat_map, nat_eq, IfOk}
use Rattle.std.specs.Str.{bytes_eq}
use Rattle.std.proofs.Math.ListN.{drop_of_length-le}
use Rattle.kmn_base.specs.declared.codes.Code.{Code}
use Rattle.kmn_base.specs.declared.events.Event.{Event}
use Rattle.kmn_base.specs.Lists.{window}
use Rattle.rule_model.specs.declared.script.Entry.{Entry}
use Rattle.rule_model.specs.declared.script.Entry.TheVariants.{Act, Expect}
use Rattle.rule_model.specs.declared.tables.Tables.{Tables}
use Rattle.rule_model.specs.Act.{one_more}
use Rattle.rule_model.specs.Event.{Happening, happening, event_refusal, unless_refused, event_of, whole_text}
use Rattle.rule_model.specs.Lines.{event_line}
use Rattle.rule_model.specs.Tab.{tab}
use Rattle.rule_model.specs.Trace.{Steps, trace, steps_from, step_then}
use Rattle.rule_model.specs.Transcript.{events_of, transcript, lines_from, expect_line}
use Rattle.play_session.specs.declared.changes.Change.{Change}
use Rattle.play_session.specs.declared.session.Step.{Step}
use Rattle.play_session.specs.Answers.{step_of}
use Rattle.play_session.specs.Printed.{IsSession, SessionsBegin, SessionsGoOn, ChangesArePrinted, change_line}
use Rattle.play_session.specs.Changes.{Values, current_at, saved_at, is_newly_saved, store_changes, changes_from}
use Rattle.play_session.specs.Session.{SessionState, first_session, happened, after_step, values_of}
use Rattle.rule_model.specs.Match.{same_value}
use Rattle.rule_model.specs.Plain.{option_numbers}
use Rattle.rule_model.proofs.PlainOptions.{length-option_numbers}
use Rattle.std.proofs.lemmas.List.Elements.{All-nil, All-cons, All-append}
use Rattle.std.specs.List.{All}
use Rattle.play_transcript.specs.declared.playing.Counts.{Counts}
use Rattle.play_transcript.specs.declared.playing.Played.{Played}
use Rattle.play_transcript.specs.declared.playing.Played.TheVariants as played
use Rattle.play_transcript.specs.declared.playing.PlayEnd.{PlayEnd}
use Rattle.play_transcript.specs.declared.playing.PlayEnd.TheVariants as ended
use Rattle.play_transcript.specs.Ends.{end_after, play_end}
use Rattle.play_transcript.specs.Failures.{failures_from}
use Rattle.play_transcript.specs.Playing.{no_counts, steps_left, happening_lines, event_lines, happened_lines, entry_lines, end_lines, event_counted, text_counted, AreOfStores, PlaysBy, Plays}
use Rattle.play_transcript.specs.Printing.{AppendsBut, IsBegun, Prints}
use Rattle.play_transcript.proofs.PrintingLaws.{none_appended, appended_more, appended_all, begun_within, prints_rest}

-- how the rest of a play ends
abbrev pub end_left : SessionState → Counts → List Entry → PlayEnd
end_left session counts entries =
    end_after (steps_left session entries).refused (failures_from counts.failed session.state entries (steps_left session entries).done)

-- the lines that remain to be printed, given the counts
abbrev pub lines_left : SessionState → Counts → List Entry → List ℕ
lines_left session counts entries =
    lines_from counts.events counts.failed session.state entries (steps_left session entries).done (steps_left session entries).refused

-- two parts together are a text if and only if its front is the first part and its rest is the second part
pub text_in_parts : (left right text : List ℕ) → bytes_eq (left ++ right) text ≡ (bytes_eq left (take (length left) text) && bytes_eq right (drop (length left) text))
text_in_parts [] right text = refl
text_in_parts (c ∷ left) right [] = refl
text_in_parts (c ∷ left) right (d ∷ text) = more (nat_eq c d) (bytes_eq left (take (length left) text)) (bytes_eq right (drop (length left) text)) (text_in_parts left right text)
  where
    more : (same front back : Bool) → bytes_eq (left ++ right) text ≡ (front && back) → (same && bytes_eq (left ++ right) text) ≡ ((same && front) && back)
    more true front back is = is
    more false front back is = refl

-- before the first entry, the whole transcript remains to be printed, and the play ends as the trace states
all_lines : (tables : Tables) (entries : List Entry) → lines_left (first_session tables) no_counts entries ≡ transcript (tab tables) entries
unfolding trace transcript
all_lines tables entries = refl

all_end : (tables : Tables) (entries : List Entry) → end_left (first_session tables) no_counts entries ≡ play_end (trace (tab tables) (events_of entries)) entries
unfolding trace
all_end tables entries = refl

-- an entry after which the play continues
pub record GoesOn (before after : SessionState) (counts next : Counts) (entry : Entry) (entries : List Entry) : Type 0 where
  pub lines : lines_left before counts (entry ∷ entries) ≡ entry_lines before entry ++ lines_left after next entries
  pub end : end_left before counts (entry ∷ entries) ≡ end_left after next entries
  pub session : IsSession after
  pub number : after.number ≡ next.number
  pub events : next.events ≤ counts.events + 1
  pub failed : next.failed ≤ counts.failed + 1

-- an entry whose event is refused is the last
pub record Stops (before : SessionState) (counts : Counts) (entry : Entry) (entries : List Entry) : Type 0 where
  pub lines : lines_left before counts (entry ∷ entries) ≡ entry_lines before entry
  pub end : end_left before counts (entry ∷ entries) ≡ ended.Refused

abbrev pub Follows : SessionState → SessionState → Counts → Entry → List Entry → Played → Type 0
Follows before after counts entry entries (played.On next) = GoesOn before after counts next entry entries
Follows before after counts entry entries played.Refused = Stops before counts entry entries

module _ (session : SessionState) (counts : Counts) (line : ℕ) (event : Event) (entries : List Entry) where
  -- the steps from the event on, by its result
  abbrev steps_by : Result Happening Code → Steps
  steps_by result = step_then (one_more session.number) (steps_from (tab session.tables) (one_more (one_more session.number)) (events_of entries)) result

  module _ (done : Happening) (at : event_of (tab session.tables) session.state event ≡ Ok done) (is : done ≡ happened session event) where
    happens : event_of (tab session.tables) session.state event ≡ Ok (happened session event)
    happens = at ∙ ap Ok is

    event_lines_on : lines_left session counts (Act line event ∷ entries) ≡ event_lines [] session event ++ lines_left (after_step session event) (event_counted session counts) entries
    event_lines_on =
        (λ i. lines_from counts.events counts.failed session.state (Act line event ∷ entries) (steps_by (happens i)).done (steps_by (happens i)).refused)
        ∙ (λ i. happening_lines [] session.state (one_more session.number) (sym happens i) ++ lines_left (after_step session event) (event_counted session counts) entries)

    event_end_on : end_left session counts (Act line event ∷ entries) ≡ end_left (after_step session event) (event_counted session counts) entries
    event_end_on = λ i. end_after (steps_by (happens i)).refused (failures_from counts.failed session.state (Act line event ∷ entries) (steps_by (happens i)).done)

  refused_stops : (code : Code) → event_of (tab session.tables) session.state event ≡ Err code → Stops session counts (Act line event) entries
  refused_stops code at = record {
    lines =
        (λ i. lines_from counts.events counts.failed session.state (Act line event ∷ entries) (steps_by (at i)).done (steps_by (at i)).refused)
        ∙ (λ i. happening_lines [] session.state (one_more session.number) (sym at i));
    end = λ i. end_after (steps_by (at i)).refused (failures_from counts.failed session.state (Act line event ∷ entries) (steps_by (at i)).done);
  }

unless_happened : (code : Option Code) (done happening : Happening) → unless_refused code done ≡ Ok happening → happening ≡ done
unless_happened None done happening is = cc
unless_happened (Some code) done happening is = absurd (cc)

-- if an event is not refused, its result is what happens
pub happens_so : (session : SessionState) (event : Event) (done : Happening) → event_of (tab session.tables) session.state event ≡ Ok done → done ≡ happened session event
happens_so session event done at = unless_happened (event_refusal session.state event) (happening (tab session.tables) session.state event) done at

happened_goes_on : SessionsGoOn → (session after : SessionState) (counts next : Counts) (line : ℕ) (event : Event) (entries : List Entry) (done : Happening)
    → IsSession session → event_of (tab session.tables) session.state event ≡ Ok done → after ≡ after_step session event → next ≡ event_counted session counts
    → GoesOn session after counts next (Act line event) entries
happened_goes_on go_on session after counts next line event entries done is at left counted =
    let same = happens_so session event done at in
    record {
      lines = event_lines_on session counts line event entries done at same ∙ (λ i. event_lines [] session event ++ lines_left (sym left i) (sym counted i) entries);
      end = event_end_on session counts line event entries done at same ∙ (λ i. end_left (sym left i) (sym counted i) entries);
      session = subst IsSession (sym left) (go_on session event is);
      number = ap (λ (s : SessionState). s.number) left ∙ sym (ap (λ (c : Counts). c.number) counted);
      events = omega (arith, ap (λ (c : Counts). c.events) counted);
      failed = omega (arith, ap (λ (c : Counts). c.failed) counted);
    }

-- the counts after an expected text, by whether it is the whole text
abbrev counted_by : Bool → Counts → Counts
counted_by same counts = if same then counts else record counts { failed = counts.failed + 1 }

lines_by : (same : Bool) (more : Counts → List ℕ) (counts : Counts) (line : List ℕ)
    → (if same then more counts else (line ++ more (record counts { failed = counts.failed + 1 }))) ≡ (if same then [] else line) ++ more (counted_by same counts)
lines_by true more counts line = refl
lines_by false more counts line = refl

end_by : (same : Bool) (more : ℕ → ℕ) (refused : Option (ℕ × Code)) (counts : Counts)
    → end_after refused (if same then more counts.failed else more (counts.failed + 1)) ≡ end_after refused (more (counted_by same counts).failed)
end_by true more refused counts = refl
end_by false more refused counts = refl

-- an expected text changes only the count of texts that differ, by at most one
record Counted (counts next : Counts) : Type 0 where
  number : next.number ≡ counts.number
  events : next.events ≡ counts.events
  failed : next.failed ≤ counts.failed + 1

counted_so : (same : Bool) (counts : Counts) → Counted counts (counted_by same counts)
counted_so true counts = record { number = refl; events = refl; failed = omega arith }
counted_so false counts = record { number = refl; events = refl; failed = omega arith }

end_at : (session : SessionState) (counts : Counts) (entries : List Entry) (same : Bool)
    → end_after (steps_left session entries).refused (failures_from (counted_by same counts).failed session.state entries (steps_left session entries).done) ≡ end_left session (counted_by same counts) entries
end_at session counts entries same = refl

expect_goes_on : (session after : SessionState) (counts next : Counts) (line : ℕ) (text : List ℕ) (entries : List Entry)
    → IsSession session → session.number ≡ counts.number → after ≡ session → next ≡ text_counted session.state text counts
    → GoesOn session after counts next (Expect line text) entries
expect_goes_on session after counts next line text entries is numbered left counted =
    let same : Bool = bytes_eq (whole_text session.state) text in
    let so : Counted counts (counted_by same counts) = counted_so same counts in
    record {
      lines = lines_by same (λ c. lines_left session c entries) counts (expect_line line)
          ∙ (λ i. (if same then [] else expect_line line) ++ lines_left (sym left i) (sym counted i) entries);
      end = end_by same (λ failed. failures_from failed session.state entries (steps_left session entries).done) (steps_left session entries).refused counts
          ∙ end_at session counts entries same ∙ (λ i. end_left (sym left i) (sym counted i) entries);
      session = subst IsSession (sym left) is;
      number = ap (λ (s : SessionState). s.number) left ∙ numbered ∙ sym so.number ∙ sym (ap (λ (c : Counts). c.number) counted);
      events = omega (arith, ap (λ (c : Counts). c.events) counted, so.events);
      failed = omega (arith, ap (λ (c : Counts). c.failed) counted, so.failed);
    }

played_event : SessionsGoOn → (before after : SessionState) (counts : Counts) (line : ℕ) (event : Event) (entries : List Entry) (result : Result Happening Code) (end : Played)
    → IsSession before → event_of (tab before.tables) before.state event ≡ result → PlaysBy before after counts event result end → Follows before after counts (Act line event) entries end
played_event go_on before after counts line event entries (Ok done) (played.On next) is at plays = happened_goes_on go_on before after counts next line event entries done is at plays.0 plays.1
played_event go_on before after counts line event entries (Ok done) played.Refused is at plays = absurd plays
played_event go_on before after counts line event entries (Err code) (played.On next) is at plays = absurd plays
played_event go_on before after counts line event entries (Err code) played.Refused is at plays = refused_stops before counts line event entries code at

-- if an entry is played, the play continues or stops as stated
pub plays_follow : SessionsGoOn → (before after : SessionState) (counts : Counts) (entry : Entry) (entries : List Entry) (end : Played)
    → IsSession before → before.number ≡ counts.number → Plays before after counts entry end → Follows before after counts entry entries end
plays_follow go_on before after counts (Act line event) entries end is numbered plays =
    played_event go_on before after counts line event entries (event_of (tab before.tables) before.state event) end is refl plays
plays_follow go_on before after counts (Expect line text) entries (played.On next) is numbered plays = expect_goes_on before after counts next line text entries is numbered plays.0 plays.1
plays_follow go_on before after counts (Expect line text) entries played.Refused is numbered plays = absurd plays

-- the changes of a step are changes of the stores of its tables
module _ (before after : Values) where
  abbrev IsWithin : ℕ → Change → Type 0
  IsWithin count change = change.store < count

  alone : (store count : ℕ) (saved : Bool) → store < count → All (IsWithin count) (record { store = store; saved = saved } ∷ [])
  alone store count saved less = All-cons (IsWithin count) (record { store = store; saved = saved }) [] less (All-nil (IsWithin count))

  either_within : (store count : ℕ) (first second : Bool) → store < count
      → All (IsWithin count) ((if first then [] else record { store = store; saved = false } ∷ []) ++ (if second then record { store = store; saved = true } ∷ [] else []))
  either_within store count true true less = alone store count true less
  either_within store count true false less = All-nil (IsWithin count)
  either_within store count false true less = All-cons (IsWithin count) (record { store = store; saved = false }) (record { store = store; saved = true } ∷ []) less (alone store count true less)
  either_within store count false false less = alone store count false less

  store_within : (store count : ℕ) (number : Option ℕ) → store < count → All (IsWithin count) (store_changes before after store number)
  store_within store count None less = All-nil (IsWithin count)
  store_within store count (Some option) less =
      either_within store count (same_value (current_at before option) (current_at after option)) (is_newly_saved (saved_at before option) (saved_at after option)) less

  changes_within : (store : ℕ) (numbers : List (Option ℕ)) (count : ℕ) → store + length numbers ≤ count → All (IsWithin count) (changes_from before after store numbers)
  changes_within store [] count within = All-nil (IsWithin count)
  changes_within store (number ∷ numbers) count within =
      All-append (IsWithin count) (store_changes before after store number) (changes_from before after (store + 1) numbers)
      (store_within store count number (omega arith)) (changes_within (store + 1) numbers count (omega arith))

pub step_of_stores : (before after : SessionState) (event : Event) → after ≡ after_step before event → AreOfStores after
step_of_stores before after event left =
    subst AreOfStores (sym left)
    (changes_within (values_of before.state) (values_of (happened before event).after) 0 (option_numbers 0 (tab before.tables).stores) (length (tab before.tables).stores) (omega (arith, length-option_numbers 0 (tab before.tables).stores)))

-- the lines of a step by the session after it are the lines of its event
pub happened_prints : ChangesArePrinted → (front : List ℕ) (before after : SessionState) (event : Event) (step : Step) → IsSession before
    → event_of (tab before.tables) before.state event ≡ Ok (happened before event) → step ≡ step_of before event → after ≡ after_step before event
    → happened_lines front after step ≡ event_lines front before event
happened_prints printed front before after event step is at made left =
    (λ i. happened_lines front (left i) (made i))
    ∙ (λ i. (front ++ event_line (one_more before.number) (happened before event).outcome (happened before event).inserted (window (happened before event).after.left)) ++ sym (printed front before event is) i)
    ∙ (λ i. happening_lines front before.state (one_more before.number) (sym at i))

-- a session before its first event
pub record Begins (session : SessionState) (tables : Tables) (entries : List Entry) : Type 0 where
  pub options : IsSession session
  pub number : session.number ≡ 0
  pub end : end_left session no_counts entries ≡ play_end (trace (tab tables) (events_of entries)) entries
  pub printed : (before : List ℕ) → AppendsBut (lines_left session no_counts entries) before before (transcript (tab tables) entries)

pub session_begins : SessionsBegin → (session : SessionState) (tables : Tables) (entries : List Entry) → session ≡ first_session tables → Begins session tables entries
session_begins begin session tables entries is =
    subst (λ (s : SessionState). Begins s tables entries) (sym is)
    (record {
      options = begin tables;
      number = refl;
      end = all_end tables entries;
      printed = λ before. subst (λ (lines : List ℕ). AppendsBut lines before before (transcript (tab tables) entries)) (sym (all_lines tables entries))
          (none_appended before (transcript (tab tables) entries));
    })

-- the remaining lines begin with the lines of the first entry
record LinesFirst (before : SessionState) (counts : Counts) (entry : Entry) (entries : List Entry) : Type 0 where
  rest : List ℕ
  is : lines_left before counts (entry ∷ entries) ≡ entry_lines before entry ++ rest

event_first : (before : SessionState) (counts : Counts) (line : ℕ) (event : Event) (entries : List Entry) (result : Result Happening Code)
    → event_of (tab before.tables) before.state event ≡ result → LinesFirst before counts (Act line event) entries
event_first before counts line event entries (Ok done) at = record {
  rest = lines_left (after_step before event) (event_counted before counts) entries;
  is = event_lines_on before counts line event entries done at (happens_so before event done at);
}
event_first before counts line event entries (Err code) at =
    record { rest = []; is = (refused_stops before counts line event entries code at).lines ∙ sym (append-nil (event_lines [] before event)) }

lines_first : (before : SessionState) (counts : Counts) (entry : Entry) (entries : List Entry) → LinesFirst before counts entry entries
lines_first before counts (Act line event) entries = event_first before counts line event entries (event_of (tab before.tables) before.state event) refl
lines_first before counts (Expect line text) entries = record {
  rest = lines_left before (text_counted before.state text counts) entries;
  is = lines_by (bytes_eq (whole_text before.state) text) (λ c. lines_left before c entries) counts (expect_line line);
}

module _ (before : SessionState) (counts : Counts) (entries : List Entry) (i : ℕ) (d entry : Entry) (within : i < length entries) (at : entry ≡ get_or entries i d) where
  first_entry : drop i entries ≡ entry ∷ drop (i + 1) entries
  first_entry = let first : drop i entries ≡ get_or entries i d ∷ drop (i + 1) entries = rw add-one (drop-cons entries i d within) in
      first ∙ ap (λ (x : Entry). x ∷ drop (i + 1) entries) (sym at)

  -- the properties of a play that continues after an entry
  pub record HasGoneOn (after : SessionState) (next : Counts) : Type 0 where
    pub session : IsSession after
    pub number : after.number ≡ next.number
    pub events : next.events ≤ counts.events + 1
    pub failed : next.failed ≤ counts.failed + 1
    pub end : (how : PlayEnd) → end_left before counts (drop i entries) ≡ how → end_left after next (drop (i + 1) entries) ≡ how
    pub printed : (start put_before put_after whole : List ℕ) → AppendsBut (lines_left before counts (drop i entries)) start put_before whole
        → put_after ≡ put_before ++ entry_lines before entry → AppendsBut (lines_left after next (drop (i + 1) entries)) start put_after whole

  pub gone_on : SessionsGoOn → (after : SessionState) (next : Counts) → IsSession before → before.number ≡ counts.number → Plays before after counts entry (played.On next) → HasGoneOn after next
  gone_on go_on after next is numbered plays =
      let h : GoesOn before after counts next entry (drop (i + 1) entries) = plays_follow go_on before after counts entry (drop (i + 1) entries) (played.On next) is numbered plays in
      record {
        session = h.session;
        number = h.number;
        events = h.events;
        failed = h.failed;
        end = λ how ends. sym h.end ∙ ap (end_left before counts) (sym first_entry) ∙ ends;
        printed = λ start put_before put_after whole appended put.
            appended_more (entry_lines before entry) (lines_left after next (drop (i + 1) entries)) start put_before put_after whole
            (subst (λ (lines : List ℕ). AppendsBut lines start put_before whole) (ap (lines_left before counts) first_entry ∙ h.lines) appended) put;
      }

  -- if the event of an entry is refused, the play ends
  pub refused_ends : SessionsGoOn → (after : SessionState) → IsSession before → before.number ≡ counts.number → Plays before after counts entry played.Refused
      → (how : PlayEnd) → end_left before counts (drop i entries) ≡ how → how ≡ ended.Refused
  refused_ends go_on after is numbered plays how ends =
      let h : Stops before counts entry (drop (i + 1) entries) = plays_follow go_on before after counts entry (drop (i + 1) entries) played.Refused is numbered plays in
      sym ends ∙ ap (end_left before counts) first_entry ∙ h.end

  pub refused_prints : SessionsGoOn → (after : SessionState) → IsSession before → before.number ≡ counts.number → Plays before after counts entry played.Refused
      → (start put_before put_after whole : List ℕ) → AppendsBut (lines_left before counts (drop i entries)) start put_before whole
      → put_after ≡ put_before ++ entry_lines before entry → put_after ≡ start ++ whole
  refused_prints go_on after is numbered plays start put_before put_after whole appended put =
      let h : Stops before counts entry (drop (i + 1) entries) = plays_follow go_on before after counts entry (drop (i + 1) entries) played.Refused is numbered plays in
      appended_all (entry_lines before entry) start put_before put_after whole
      (subst (λ (lines : List ℕ). AppendsBut lines start put_before whole) (ap (lines_left before counts) first_entry ∙ h.lines) appended) put

  -- if the beginning of the lines of an entry is printed, it is the beginning of all remaining lines
  pub play_stops : (start put_before put_after whole : List ℕ)
      → AppendsBut (lines_left before counts (drop i entries)) start put_before whole → IsBegun put_before put_after (entry_lines before entry) → IsBegun start put_after whole
  play_stops start put_before put_after whole appended begun =
      let parts : LinesFirst before counts entry (drop (i + 1) entries) = lines_first before counts entry (drop (i + 1) entries) in
      begun_within (entry_lines before entry) parts.rest start put_before put_after whole
      (subst (λ (lines : List ℕ). AppendsBut lines start put_before whole) (ap (lines_left before counts) first_entry ∙ parts.is) appended) begun

-- if there are no more entries and the last two lines are printed, everything is printed
pub play_ends : {A E : Type 0} (session : SessionState) (counts : Counts) (entries : List Entry) (i : ℕ) (start before after whole : List ℕ) (result : Result A E)
    → length entries ≤ i → AppendsBut (lines_left session counts (drop i entries)) start before whole
    → Prints before after (end_lines session counts) result → Prints start after whole result
play_ends session counts entries i start before after whole result all appended prints =
    let last : lines_left session counts (drop i entries) ≡ end_lines session counts = ap (lines_left session counts) (drop_of_length-le entries all) in
    prints_rest (end_lines session counts) start before after whole result (subst (λ (rest : List ℕ). AppendsBut rest start before whole) last appended) prints

pub ends_if : {E : Type 0} (result : Result PlayEnd E) (given how : PlayEnd) → IfOk result (λ s. s ≡ given) → given ≡ how → IfOk result (λ s. s ≡ how)
ends_if (Ok s) given how is same = is ∙ same
ends_if (Err error) given how is same = tt

pub ends_so : (session : SessionState) (counts : Counts) (entries : List Entry) (i : ℕ) (how : PlayEnd) → length entries ≤ i → end_left session counts (drop i entries) ≡ how
    → end_after None counts.failed ≡ how
ends_so session counts entries i how all ends = sym (ap (end_left session counts) (drop_of_length-le entries all)) ∙ ends

-- before the first change of a step is printed, the lines of all its changes remain to be printed
pub changes_begin : (front : List ℕ) (session : SessionState) (changes : List Change) (before : List ℕ) → AppendsBut (flat_map (change_line front session) changes) before before (flat_map (change_line front session) changes)
changes_begin front session changes before = none_appended before (flat_map (change_line front session) changes)

module _ (front : List ℕ) (session : SessionState) (changes : List Change) (i : ℕ) (d change : Change) (within : i < length changes) (at : change ≡ get_or changes i d) where
  first_change : flat_map (change_line front session) (drop i changes) ≡ change_line front session change ++ flat_map (change_line front session) (drop (i + 1) changes)
  first_change =
      let first : drop i changes ≡ get_or changes i d ∷ drop (i + 1) changes = rw add-one (drop-cons changes i d within) in
      ap (flat_map (change_line front session)) (first ∙ ap (λ (x : Change). x ∷ drop (i + 1) changes) (sym at))

  pub change_begun : (start before after whole : List ℕ) → AppendsBut (flat_map (change_line front session) (drop i changes)) start before whole → IsBegun before after (change_line front session change)
      → IsBegun start after whole
  change_begun start before after whole appended begun =
      begun_within (change_line front session change) (flat_map (change_line front session) (drop (i + 1) changes)) start before after whole
      (subst (λ (lines : List ℕ). AppendsBut lines start before whole) first_change appended) begun
