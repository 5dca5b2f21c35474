-- The content of a sink after an entry of a traced script, if the script continues and if it stops.
use Rattle.std.proofs.Common.{◌≡◌, ℕ, ◌+◌, ◌<◌, ◌≤◌, List, [], ◌∷◌, ◌++◌, length, drop, get_or, map, Result, Ok, Err, refl, ap, sym, ◌∙◌, subst, arith, add-one, drop-cons, append-nil}
use Rattle.std.specs.Prelude.{suc, All, IfOk}
use Rattle.std.specs.List.{Contains}
use Rattle.std.proofs.Math.ListN.{drop_of_length-le}
use Rattle.kmn_base.specs.declared.codes.Code.{Code}
use Rattle.kmn_base.specs.declared.events.Event.{Event}
use Rattle.rule_model.specs.declared.script.Entry.{Entry}
use Rattle.rule_model.specs.declared.script.Entry.TheVariants.{Act, Expect}
use Rattle.rule_model.specs.declared.tables.Tables.{Tables}
use Rattle.rule_model.specs.Act.{one_more}
use Rattle.rule_model.specs.ChosenLines.{chosen}
use Rattle.rule_model.specs.Event.{State, Happening, event_of}
use Rattle.rule_model.specs.Keyboard.{Keyboard}
use Rattle.rule_model.specs.Tab.{tab}
use Rattle.rule_model.specs.Trace.{Steps, trace, steps_from, step_then}
use Rattle.rule_model.specs.Transcript.{events_of}
use Rattle.rule_trace.specs.declared.coverage.Hit.{Hit}
use Rattle.rule_trace.specs.Coverage.{with_lines, lines_of_tables, hit_lines, not_chosen, AreLinesOf}
use Rattle.rule_trace.proofs.Counting.{with_lines-lines}
use Rattle.play_session.specs.Session.{SessionState, first_session, happened, after_step}
use Rattle.play_transcript.specs.Printing.{AppendsBut, IsBegun, Prints}
use Rattle.play_transcript.proofs.PrintingLaws.{none_appended, appended_more, appended_all, begun_within, prints_rest}
use Rattle.play_transcript.proofs.PlayingLaws.{happens_so}
use Rattle.play_transcript.specs.declared.following.TraceCounts.{TraceCounts}
use Rattle.play_transcript.specs.declared.following.Followed.{Followed}
use Rattle.play_transcript.specs.declared.following.Followed.TheVariants as followed
use Rattle.play_transcript.specs.declared.following.TraceEnd.{TraceEnd}
use Rattle.play_transcript.specs.declared.following.TraceEnd.TheVariants as ended
use Rattle.play_transcript.specs.TraceEntry.{no_counts, event_line, entry_line, event_counted, happening_line, lines_chosen, Covers, FollowsBy, Follows}
use Rattle.play_transcript.specs.TraceEnds.{end_after, trace_end}
use Rattle.play_transcript.specs.TraceText.{fired_from, hits_text, trace_text_of, trace_text}
use Rattle.play_transcript.specs.Playing.{steps_left}

-- how the rest of a script ends
abbrev pub end_left : SessionState → List Entry → TraceEnd
end_left session entries = end_after (steps_left session entries).refused

-- the text that remains to be printed, given the hits and the counts
abbrev pub text_left : SessionState → List Hit → TraceCounts → List Entry → List ℕ
text_left session hits counts entries =
    fired_from (chosen (tab session.tables)) counts.events hits session.state (events_of entries) (steps_left session entries).done (steps_left session entries).refused

-- before the first entry, the whole text remains to be printed, and the script ends as the trace states
all_text : (tables : Tables) (lines : List ℕ) (entries : List Entry) → text_left (first_session tables) (map not_chosen lines) no_counts entries ≡ trace_text (tab tables) lines entries
unfolding trace trace_text
all_text tables lines entries = refl

all_end : (tables : Tables) (entries : List Entry) → end_left (first_session tables) entries ≡ trace_end (trace (tab tables) (events_of entries))
unfolding trace
all_end tables entries = refl

-- if the count of each hit is 0, the hits are lines that were not chosen yet
nothing_chosen : (hits : List Hit) → All (λ (hit : Hit). hit.count ≡ 0) hits → hits ≡ map not_chosen (hit_lines hits)
nothing_chosen [] none = refl
nothing_chosen (hit ∷ hits) none =
    λ i. record { line = hit.line; count = none 0 hit (omega arith) i } ∷ nothing_chosen hits (λ k d less. none (suc k) d (omega arith)) i

-- a session and its coverage before the first event
pub record Begins (session : SessionState) (hits : List Hit) (tables : Tables) (entries : List Entry) : Type 0 where
  pub number : session.number ≡ 0
  pub end : end_left session entries ≡ trace_end (trace (tab tables) (events_of entries))
  pub printed : (before : List ℕ) → AppendsBut (text_left session hits no_counts entries) before before (trace_text (tab tables) (lines_of_tables tables) entries)

pub script_begins : (session : SessionState) (hits : List Hit) (tables : Tables) (entries : List Entry) → session ≡ first_session tables → All (λ (hit : Hit). hit.count ≡ 0) hits
    → AreLinesOf tables hits → Begins session hits tables entries
script_begins session hits tables entries is none are =
    let whole : List ℕ = trace_text (tab tables) (lines_of_tables tables) entries in
    let all : text_left session hits no_counts entries ≡ whole = (λ i. text_left (is i) (nothing_chosen hits none i) no_counts entries) ∙ all_text tables (hit_lines hits) entries
    ∙ ap (λ lines. trace_text (tab tables) lines entries) are in
    record {
      number = ap (λ (s : SessionState). s.number) is;
      end = (λ i. end_left (is i) entries) ∙ all_end tables entries;
      printed = λ before. subst (λ (lines : List ℕ). AppendsBut lines before before whole) (sym all) (none_appended before whole);
    }

-- an entry after which the script continues
pub record GoesOn (before after : SessionState) (hits hits_after : List Hit) (counts next : TraceCounts) (entry : Entry) (entries : List Entry) : Type 0 where
  pub text : text_left before hits counts (entry ∷ entries) ≡ entry_line before entry ++ text_left after hits_after next entries
  pub end : end_left before (entry ∷ entries) ≡ end_left after entries
  pub tables : after.tables ≡ before.tables
  pub lines : hit_lines hits_after ≡ hit_lines hits
  pub number : after.number ≡ next.number
  pub events : next.events ≤ counts.events + 1

-- an entry whose event is refused is the last
pub record Stops (before : SessionState) (hits : List Hit) (counts : TraceCounts) (entry : Entry) (entries : List Entry) : Type 0 where
  pub text : text_left before hits counts (entry ∷ entries) ≡ entry_line before entry
  pub end : end_left before (entry ∷ entries) ≡ ended.Refused

module _ (session : SessionState) (hits : List Hit) (counts : TraceCounts) (line : ℕ) (event : Event) (entries : List Entry) where
  -- the steps from the event on, by its result
  abbrev steps_by : Result Happening Code → Steps
  steps_by result = step_then (one_more session.number) (steps_from (tab session.tables) (one_more (one_more session.number)) (events_of entries)) result

  abbrev text_by : Result Happening Code → List ℕ
  text_by result = fired_from (chosen (tab session.tables)) counts.events hits session.state (event ∷ events_of entries) (steps_by result).done (steps_by result).refused

  abbrev line_by : Result Happening Code → List ℕ
  line_by result = happening_line (one_more session.number) (lines_chosen session event) result

  module _ (done : Happening) (at : event_of (tab session.tables) session.state event ≡ Ok done) (is : done ≡ happened session event) where
    happens : event_of (tab session.tables) session.state event ≡ Ok (happened session event)
    happens = at ∙ ap Ok is

    event_text_on : text_left session hits counts (Act line event ∷ entries)
        ≡ event_line session event ++ text_left (after_step session event) (with_lines (lines_chosen session event) hits) (event_counted session counts) entries
    event_text_on =
        (λ i. text_by (happens i))
        ∙ (λ i. line_by (sym happens i) ++ text_left (after_step session event) (with_lines (lines_chosen session event) hits) (event_counted session counts) entries)

    event_end_on : end_left session (Act line event ∷ entries) ≡ end_left (after_step session event) entries
    event_end_on = λ i. end_after (steps_by (happens i)).refused

  refused_stops : (code : Code) → event_of (tab session.tables) session.state event ≡ Err code → Stops session hits counts (Act line event) entries
  refused_stops code at = record {
    text = (λ i. text_by (at i)) ∙ (λ i. line_by (sym at i));
    end = λ i. end_after (steps_by (at i)).refused;
  }

happened_goes_on : (session after : SessionState) (hits hits_after : List Hit) (counts next : TraceCounts) (line : ℕ) (event : Event) (entries : List Entry) (done : Happening)
    → event_of (tab session.tables) session.state event ≡ Ok done → after ≡ after_step session event → hits_after ≡ with_lines (lines_chosen session event) hits
    → next ≡ event_counted session counts → GoesOn session after hits hits_after counts next (Act line event) entries
happened_goes_on session after hits hits_after counts next line event entries done at left added counted =
    let same = happens_so session event done at in
    record {
      text = event_text_on session hits counts line event entries done at same
          ∙ (λ i. event_line session event ++ text_left (sym left i) (sym added i) (sym counted i) entries);
      end = event_end_on session hits counts line event entries done at same ∙ (λ i. end_left (sym left i) entries);
      tables = ap (λ (s : SessionState). s.tables) left;
      lines = ap hit_lines added ∙ with_lines-lines (lines_chosen session event) hits;
      number = ap (λ (s : SessionState). s.number) left ∙ sym (ap (λ (c : TraceCounts). c.number) counted);
      events = omega (arith, ap (λ (c : TraceCounts). c.events) counted);
    }

expect_goes_on : (session after : SessionState) (hits hits_after : List Hit) (counts next : TraceCounts) (line : ℕ) (text : List ℕ) (entries : List Entry)
    → session.number ≡ counts.number → after ≡ session → hits_after ≡ hits → next ≡ counts → GoesOn session after hits hits_after counts next (Expect line text) entries
expect_goes_on session after hits hits_after counts next line text entries numbered left added counted =
    record {
      text = λ i. text_left (sym left i) (sym added i) (sym counted i) entries;
      end = λ i. end_left (sym left i) entries;
      tables = ap (λ (s : SessionState). s.tables) left;
      lines = ap hit_lines added;
      number = ap (λ (s : SessionState). s.number) left ∙ numbered ∙ sym (ap (λ (c : TraceCounts). c.number) counted);
      events = omega (arith, ap (λ (c : TraceCounts). c.events) counted);
    }

abbrev pub Leads : SessionState → SessionState → List Hit → List Hit → TraceCounts → Entry → List Entry → Followed → Type 0
Leads before after hits hits_after counts entry entries (followed.On next) = GoesOn before after hits hits_after counts next entry entries
Leads before after hits hits_after counts entry entries followed.Refused = Stops before hits counts entry entries

followed_event : (before after : SessionState) (hits hits_after : List Hit) (counts : TraceCounts) (line : ℕ) (event : Event) (entries : List Entry) (result : Result Happening Code) (end : Followed)
    → event_of (tab before.tables) before.state event ≡ result → FollowsBy before after hits hits_after counts event result end
    → Leads before after hits hits_after counts (Act line event) entries end
followed_event before after hits hits_after counts line event entries (Ok done) (followed.On next) at follows =
    happened_goes_on before after hits hits_after counts next line event entries done at follows.0 follows.1 follows.2
followed_event before after hits hits_after counts line event entries (Ok done) followed.Refused at follows = absurd follows
followed_event before after hits hits_after counts line event entries (Err code) (followed.On next) at follows = absurd follows
followed_event before after hits hits_after counts line event entries (Err code) followed.Refused at follows = refused_stops before hits counts line event entries code at

-- if an entry is played, the script continues or stops as stated
follows_lead : (before after : SessionState) (hits hits_after : List Hit) (counts : TraceCounts) (entry : Entry) (entries : List Entry) (end : Followed)
    → before.number ≡ counts.number → Follows before after hits hits_after counts entry end → Leads before after hits hits_after counts entry entries end
follows_lead before after hits hits_after counts (Act line event) entries end numbered follows =
    followed_event before after hits hits_after counts line event entries (event_of (tab before.tables) before.state event) end refl follows
follows_lead before after hits hits_after counts (Expect line text) entries (followed.On next) numbered follows =
    expect_goes_on before after hits hits_after counts next line text entries numbered follows.0 follows.1 follows.2
follows_lead before after hits hits_after counts (Expect line text) entries followed.Refused numbered follows = absurd follows

-- the remaining text begins with the line of the first entry
record TextFirst (before : SessionState) (hits : List Hit) (counts : TraceCounts) (entry : Entry) (entries : List Entry) : Type 0 where
  rest : List ℕ
  is : text_left before hits counts (entry ∷ entries) ≡ entry_line before entry ++ rest

event_first : (before : SessionState) (hits : List Hit) (counts : TraceCounts) (line : ℕ) (event : Event) (entries : List Entry) (result : Result Happening Code)
    → event_of (tab before.tables) before.state event ≡ result → TextFirst before hits counts (Act line event) entries
event_first before hits counts line event entries (Ok done) at = record {
  rest = text_left (after_step before event) (with_lines (lines_chosen before event) hits) (event_counted before counts) entries;
  is = event_text_on before hits counts line event entries done at (happens_so before event done at);
}
event_first before hits counts line event entries (Err code) at =
    record { rest = []; is = (refused_stops before hits counts line event entries code at).text ∙ sym (append-nil (event_line before event)) }

text_first : (before : SessionState) (hits : List Hit) (counts : TraceCounts) (entry : Entry) (entries : List Entry) → TextFirst before hits counts entry entries
text_first before hits counts (Act line event) entries = event_first before hits counts line event entries (event_of (tab before.tables) before.state event) refl
text_first before hits counts (Expect line text) entries = record { rest = text_left before hits counts entries; is = refl }

module _ (before : SessionState) (hits : List Hit) (counts : TraceCounts) (entries : List Entry) (i : ℕ) (d entry : Entry) (within : i < length entries) (at : entry ≡ get_or entries i d) where
  first_entry : drop i entries ≡ entry ∷ drop (i + 1) entries
  first_entry = let first : drop i entries ≡ get_or entries i d ∷ drop (i + 1) entries = rw add-one (drop-cons entries i d within) in
      first ∙ ap (λ (x : Entry). x ∷ drop (i + 1) entries) (sym at)

  abbrev Appends : List ℕ → List ℕ → List ℕ → Type 0
  Appends start put_before whole = AppendsBut (text_left before hits counts (drop i entries)) start put_before whole

  -- the properties of a script that continues after an entry
  pub record HasGoneOn (after : SessionState) (hits_after : List Hit) (next : TraceCounts) : Type 0 where
    pub tables : after.tables ≡ before.tables
    pub lines : hit_lines hits_after ≡ hit_lines hits
    pub number : after.number ≡ next.number
    pub events : next.events ≤ counts.events + 1
    pub end : (how : TraceEnd) → end_left before (drop i entries) ≡ how → end_left after (drop (i + 1) entries) ≡ how
    pub printed : (start put_before put_after whole : List ℕ) → Appends start put_before whole
        → put_after ≡ put_before ++ entry_line before entry → AppendsBut (text_left after hits_after next (drop (i + 1) entries)) start put_after whole

  pub gone_on : (after : SessionState) (hits_after : List Hit) (next : TraceCounts) → before.number ≡ counts.number → Follows before after hits hits_after counts entry (followed.On next)
      → HasGoneOn after hits_after next
  gone_on after hits_after next numbered follows =
      let h : GoesOn before after hits hits_after counts next entry (drop (i + 1) entries)
      = follows_lead before after hits hits_after counts entry (drop (i + 1) entries) (followed.On next) numbered follows in
      record {
        tables = h.tables;
        lines = h.lines;
        number = h.number;
        events = h.events;
        end = λ how ends. sym h.end ∙ ap (end_left before) (sym first_entry) ∙ ends;
        printed = λ start put_before put_after whole appended put.
            appended_more (entry_line before entry) (text_left after hits_after next (drop (i + 1) entries)) start put_before put_after whole
            (subst (λ (lines : List ℕ). AppendsBut lines start put_before whole) (ap (text_left before hits counts) first_entry ∙ h.text) appended) put;
      }

  -- if the event of an entry is refused, the script ends
  refused_is_last : (after : SessionState) (hits_after : List Hit) → before.number ≡ counts.number → Follows before after hits hits_after counts entry followed.Refused
      → Stops before hits counts entry (drop (i + 1) entries)
  refused_is_last after hits_after numbered follows = follows_lead before after hits hits_after counts entry (drop (i + 1) entries) followed.Refused numbered follows

  pub refused_ends : (after : SessionState) (hits_after : List Hit) → before.number ≡ counts.number → Follows before after hits hits_after counts entry followed.Refused
      → (how : TraceEnd) → end_left before (drop i entries) ≡ how → how ≡ ended.Refused
  refused_ends after hits_after numbered follows how ends =
      sym ends ∙ ap (end_left before) first_entry ∙ (refused_is_last after hits_after numbered follows).end

  pub refused_prints : (after : SessionState) (hits_after : List Hit) → before.number ≡ counts.number → Follows before after hits hits_after counts entry followed.Refused
      → (start put_before put_after whole : List ℕ) → Appends start put_before whole → put_after ≡ put_before ++ entry_line before entry → put_after ≡ start ++ whole
  refused_prints after hits_after numbered follows start put_before put_after whole appended put =
      appended_all (entry_line before entry) start put_before put_after whole
      (subst (λ (lines : List ℕ). AppendsBut lines start put_before whole) (ap (text_left before hits counts) first_entry ∙ (refused_is_last after hits_after numbered follows).text) appended) put

  -- if the beginning of the line of an entry is printed, it is the beginning of all remaining text
  pub entry_stops : (start put_before put_after whole : List ℕ) → Appends start put_before whole → IsBegun put_before put_after (entry_line before entry) → IsBegun start put_after whole
  entry_stops start put_before put_after whole appended begun =
      let parts : TextFirst before hits counts entry (drop (i + 1) entries) = text_first before hits counts entry (drop (i + 1) entries) in
      begun_within (entry_line before entry) parts.rest start put_before put_after whole
      (subst (λ (lines : List ℕ). AppendsBut lines start put_before whole) (ap (text_left before hits counts) first_entry ∙ parts.is) appended) begun

-- if there are no more entries and the hits are printed, everything is printed
pub script_ends : {A E : Type 0} (session : SessionState) (hits told : List Hit) (counts : TraceCounts) (entries : List Entry) (i : ℕ) (start before after whole : List ℕ) (result : Result A E)
    → length entries ≤ i → told ≡ hits → AppendsBut (text_left session hits counts (drop i entries)) start before whole
    → Prints before after (hits_text counts.events told) result → Prints start after whole result
script_ends session hits told counts entries i start before after whole result all is appended prints =
    let last : text_left session hits counts (drop i entries) ≡ hits_text counts.events told =
    ap (text_left session hits counts) (drop_of_length-le entries all) ∙ ap (hits_text counts.events) (sym is) in
    prints_rest (hits_text counts.events told) start before after whole result (subst (λ (rest : List ℕ). AppendsBut rest start before whole) last appended) prints

pub ends_if : {E : Type 0} (result : Result TraceEnd E) (given how : TraceEnd) → IfOk result (λ s. s ≡ given) → given ≡ how → IfOk result (λ s. s ≡ how)
ends_if (Ok s) given how is same = is ∙ same
ends_if (Err error) given how is same = tt

pub ends_so : (session : SessionState) (entries : List Entry) (i : ℕ) (how : TraceEnd) → length entries ≤ i → end_left session (drop i entries) ≡ how → ended.Done ≡ how
ends_so session entries i how all ends = sym (ap (end_left session) (drop_of_length-le entries all)) ∙ ends

-- if lines cover the tables of a session, they contain the lines that its step chose, and they still cover the tables after it
pub step_is_covered : (before after : SessionState) (event : Event) (lines known : List ℕ) → Covers before.tables known → after ≡ after_step before event → lines ≡ after.chosen
    → All (Contains known) lines
step_is_covered before after event lines known covers left is =
    subst (All (Contains known)) (sym (is ∙ ap (λ (s : SessionState). s.chosen) left)) (covers before.state event)

pub still_covers : (tables after : Tables) (known known_after : List ℕ) → after ≡ tables → known_after ≡ known → Covers tables known → Covers after known_after
still_covers tables after known known_after same_tables same_lines covers =
    subst (λ (t : Tables). Covers t known_after) (sym same_tables) (subst (Covers tables) (sym same_lines) covers)

-- if two keyboards take the same steps and choose the same lines, they print the same text
pub same_text : (kb other : Keyboard) → ((events : List Event) → trace kb events ≡ trace other events) → ((state : State) (event : Event) → chosen kb state event ≡ chosen other state event)
    → (lines : List ℕ) (entries : List Entry) → trace_text kb lines entries ≡ trace_text other lines entries
unfolding trace_text
same_text kb other steps choices lines entries =
    λ i. trace_text_of (λ state event. choices state event i) (steps (events_of entries) i) lines (events_of entries)
