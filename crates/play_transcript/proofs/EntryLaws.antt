-- The rest of a play after an entry, if the play continues and if it stops.
use Rattle.std.proofs.Common.{◌≡◌, ℕ, zero, suc, ◌+◌, ◌<◌, ◌≤◌, Bool, true, false, List, [], ◌∷◌, ◌++◌, length, drop, get_or, cond, Option, Some, None, Result, refl, sym, ap, ◌∙◌, subst, arith, add-one, drop-cons, append-nil}
use Rattle.std.specs.Prelude.{nat_le}
use Rattle.std.specs.Str.{bytes_eq}
use Rattle.std.proofs.Math.ListN.{drop_of_length-le}
use Rattle.std.proofs.lemmas.List.Elements.{All-set, All-append, All-cons, All-nil}
use Rattle.kmn_base.specs.declared.codes.Code.{Code}
use Rattle.kmn_base.specs.declared.events.Event.{Event}
use Rattle.kmn_base.specs.declared.limits.TheConstants.{FIELDS}
use Rattle.rule_model.specs.declared.tables.Tables.{Tables}
use Rattle.rule_model.specs.Event.{whole_text}
use Rattle.play_session.specs.Printed.{IsSession, SessionsBegin, SessionsGoOn}
use Rattle.play_session.specs.Session.{SessionState, first_session, after_step}
use Rattle.play_transcript.specs.Ends.{end_after}
use Rattle.play_transcript.specs.Printing.{AppendsBut, IsBegun, Prints}
use Rattle.play_transcript.specs.declared.playing.PlayEnd.{PlayEnd}
use Rattle.play_transcript.specs.declared.playing.PlayEnd.TheVariants as ended
use Rattle.play_transcript.proofs.PrintingLaws.{none_appended, appended_more, appended_all, begun_within, prints_rest}
use Rattle.text_host.specs.Host.{HostState, with_field, with_new_field}
use Rattle.text_host.specs.declared.entries.HostEntry.{HostEntry}
use Rattle.text_host.specs.declared.entries.HostEntry.TheVariants.{Open, Field, Preview, Act, Expect}
use Rattle.play_transcript.specs.declared.host_playing.Play.{Play}
use Rattle.play_transcript.specs.declared.host_playing.Played.TheVariants as played
use Rattle.play_transcript.specs.EachEntry.{AreSessions, PlaysBy, Plays}
use Rattle.play_transcript.specs.HostText.{entry_lines, end_lines, end_unless, lines_left, end_left, host_text, host_end}
use Rattle.play_transcript.specs.HostPlaying.{first_play, turned_to, entry_refusal, shown, stepped, compared, after_entry, rest_unless}
use Rattle.play_transcript.proofs.FieldLaws.{of_field}

-- the properties of a play that an entry keeps
pub record Keeps (before after : Play) : Type 0 where
  pub sessions : AreSessions after.host
  pub events : after.events ≤ before.events + 1
  pub failed : after.failed ≤ before.failed + 1

same_keeps : (play : Play) → AreSessions play.host → Keeps play play
same_keeps play are = record { sessions = are; events = omega arith; failed = omega arith }

open_keeps : SessionsBegin → (play : Play) (full : Bool) → AreSessions play.host → Keeps play (cond full play (record play { host = with_new_field play.host; field = length play.host.sessions + 1 }))
open_keeps begin play true are = same_keeps play are
open_keeps begin play false are = record {
  sessions = All-append IsSession play.host.sessions (first_session play.host.tables ∷ []) are
      (All-cons IsSession (first_session play.host.tables) [] (begin play.host.tables) (All-nil IsSession));
  events = omega arith;
  failed = omega arith;
}

with_field_keeps : (host : HostState) (field : ℕ) (session : SessionState) → IsSession session → AreSessions host → AreSessions (with_field field session host)
with_field_keeps host zero session is are = are
with_field_keeps host (suc place) session is are = All-set IsSession host.sessions place session is are

step_keeps : SessionsGoOn → (play : Play) (event : Event) (there : Option SessionState) → turned_to play ≡ there → AreSessions play.host → Keeps play (stepped play event there)
step_keeps go_on play event None is are = same_keeps play are
step_keeps go_on play event (Some session) is are = record {
  sessions = with_field_keeps play.host play.field (after_step session event) (go_on session event (of_field IsSession play.host play.field session are is)) are;
  events = omega arith;
  failed = omega arith;
}

show_keeps : (play : Play) (there : Option SessionState) → AreSessions play.host → Keeps play (shown play there)
show_keeps play None are = same_keeps play are
show_keeps play (Some session) are = record { sessions = are; events = omega arith; failed = omega arith }

differ_keeps : (play : Play) (same : Bool) → AreSessions play.host → Keeps play (cond same play (record play { failed = play.failed + 1 }))
differ_keeps play true are = same_keeps play are
differ_keeps play false are = record { sessions = are; events = omega arith; failed = omega arith }

compare_keeps : (play : Play) (text : List ℕ) (there : Option SessionState) → AreSessions play.host → Keeps play (compared play text there)
compare_keeps play text None are = same_keeps play are
compare_keeps play text (Some session) are = differ_keeps play (bytes_eq (whole_text session.state) text) are

entry_keeps : SessionsBegin → SessionsGoOn → (play : Play) (entry : HostEntry) → AreSessions play.host → Keeps play (after_entry play entry)
entry_keeps begin go_on play (Open line) are = open_keeps begin play (nat_le FIELDS (length play.host.sessions)) are
entry_keeps begin go_on play (Field line field) are = record { sessions = are; events = omega arith; failed = omega arith }
entry_keeps begin go_on play (Preview line press) are = show_keeps play (turned_to play) are
entry_keeps begin go_on play (Act line event) are = step_keeps go_on play event (turned_to play) refl are
entry_keeps begin go_on play (Expect line text) are = compare_keeps play text (turned_to play) are

-- a play before its first entry
pub record Begins (play : Play) (tables : Tables) (entries : List HostEntry) : Type 0 where
  pub sessions : AreSessions play.host
  pub events : play.events ≡ 0
  pub failed : play.failed ≡ 0
  pub end : end_left play entries ≡ host_end tables entries
  pub printed : (before : List ℕ) → AppendsBut (lines_left play entries) before before (host_text tables entries)

first_begins : (tables : Tables) (entries : List HostEntry) → Begins (first_play tables) tables entries
unfolding host_text host_end
first_begins tables entries = record {
  sessions = All-nil IsSession;
  events = refl;
  failed = refl;
  end = refl;
  printed = λ before. none_appended before (lines_left (first_play tables) entries);
}

pub play_begins : (play : Play) (tables : Tables) (entries : List HostEntry) → play ≡ first_play tables → Begins play tables entries
play_begins play tables entries is = subst (λ (p : Play). Begins p tables entries) (sym is) (first_begins tables entries)

module _ (before : Play) (entries : List HostEntry) (i : ℕ) (d entry : HostEntry) (within : i < length entries) (at : entry ≡ get_or entries i d) where
  first_entry : drop i entries ≡ entry ∷ drop (i + 1) entries
  first_entry = let first : drop i entries ≡ get_or entries i d ∷ drop (i + 1) entries = rw add-one (drop-cons entries i d within) in
      first ∙ ap (λ (x : HostEntry). x ∷ drop (i + 1) entries) (sym at)

  -- the remaining lines and the end of the play, given whether the entry is refused
  lines_by : (refusal : Option Code) → entry_refusal before entry ≡ refusal
      → lines_left before (drop i entries) ≡ entry_lines before entry ++ rest_unless refusal (lines_left (after_entry before entry) (drop (i + 1) entries))
  lines_by refusal is =
      ap (lines_left before) first_entry
      ∙ ap (λ (r : Option Code). entry_lines before entry ++ rest_unless r (lines_left (after_entry before entry) (drop (i + 1) entries))) is

  end_by : (refusal : Option Code) → entry_refusal before entry ≡ refusal
      → end_left before (drop i entries) ≡ end_unless refusal (end_left (after_entry before entry) (drop (i + 1) entries))
  end_by refusal is =
      ap (end_left before) first_entry ∙ ap (λ (r : Option Code). end_unless r (end_left (after_entry before entry) (drop (i + 1) entries))) is

  abbrev Appends : List ℕ → List ℕ → List ℕ → Type 0
  Appends start put_before whole = AppendsBut (lines_left before (drop i entries)) start put_before whole

  appends_by : (refusal : Option Code) → entry_refusal before entry ≡ refusal → (start put_before whole : List ℕ) → Appends start put_before whole
      → AppendsBut (entry_lines before entry ++ rest_unless refusal (lines_left (after_entry before entry) (drop (i + 1) entries))) start put_before whole
  appends_by refusal is start put_before whole = subst (λ (lines : List ℕ). AppendsBut lines start put_before whole) (lines_by refusal is)

  -- the properties of a play that continues after an entry
  pub record HasGoneOn (after : Play) : Type 0 where
    pub sessions : AreSessions after.host
    pub events : after.events ≤ before.events + 1
    pub failed : after.failed ≤ before.failed + 1
    pub end : (how : PlayEnd) → end_left before (drop i entries) ≡ how → end_left after (drop (i + 1) entries) ≡ how
    pub printed : (start put_before put_after whole : List ℕ) → Appends start put_before whole → put_after ≡ put_before ++ entry_lines before entry
        → AppendsBut (lines_left after (drop (i + 1) entries)) start put_after whole

  goes_on_by : (refusal : Option Code) → entry_refusal before entry ≡ refusal → (after : Play) → Keeps before (after_entry before entry) → PlaysBy refusal (after_entry before entry) after played.On → HasGoneOn after
  goes_on_by None is after keeps left = subst HasGoneOn (sym left) (record {
    sessions = keeps.sessions;
    events = keeps.events;
    failed = keeps.failed;
    end = λ how ends. sym (end_by None is) ∙ ends;
    printed = λ start put_before put_after whole appended put.
        appended_more (entry_lines before entry) (lines_left (after_entry before entry) (drop (i + 1) entries)) start put_before put_after whole
        (appends_by None is start put_before whole appended) put;
  })
  goes_on_by (Some code) is after keeps left = absurd left

  pub gone_on : SessionsBegin → SessionsGoOn → (after : Play) → AreSessions before.host → Plays before after entry played.On → HasGoneOn after
  gone_on begin go_on after are plays = goes_on_by (entry_refusal before entry) refl after (entry_keeps begin go_on before entry are) plays

  -- if an entry is refused, the play ends
  record Stops : Type 0 where
    refusal : Code
    is : entry_refusal before entry ≡ Some refusal

  stops_by : (refusal : Option Code) → entry_refusal before entry ≡ refusal → (after : Play) → PlaysBy refusal (after_entry before entry) after played.Refused → Stops
  stops_by None is after left = absurd left
  stops_by (Some code) is after left = record { refusal = code; is = is }

  pub refused_ends : (after : Play) → Plays before after entry played.Refused → (how : PlayEnd) → end_left before (drop i entries) ≡ how → how ≡ ended.Refused
  refused_ends after plays how ends =
      let h : Stops = stops_by (entry_refusal before entry) refl after plays in
      sym ends ∙ end_by (Some h.refusal) h.is

  pub refused_prints : (after : Play) → Plays before after entry played.Refused → (start put_before put_after whole : List ℕ) → Appends start put_before whole
      → put_after ≡ put_before ++ entry_lines before entry → put_after ≡ start ++ whole
  refused_prints after plays start put_before put_after whole appended put =
      let h : Stops = stops_by (entry_refusal before entry) refl after plays in
      appended_all (entry_lines before entry) start put_before put_after whole
      (subst (λ (lines : List ℕ). AppendsBut lines start put_before whole) (append-nil (entry_lines before entry)) (appends_by (Some h.refusal) h.is start put_before whole appended)) put

  -- if the beginning of the lines of an entry is printed, it is the beginning of all remaining lines
  pub entry_stops : (start put_before put_after whole : List ℕ) → Appends start put_before whole → IsBegun put_before put_after (entry_lines before entry) → IsBegun start put_after whole
  entry_stops start put_before put_after whole appended begun =
      begun_within (entry_lines before entry) (rest_unless (entry_refusal before entry) (lines_left (after_entry before entry) (drop (i + 1) entries))) start put_before put_after whole
      (appends_by (entry_refusal before entry) refl start put_before whole appended) begun

-- if there are no more entries and the last lines are printed, everything is printed
pub play_ends : {A E : Type 0} (play : Play) (entries : List HostEntry) (i : ℕ) (start before after whole : List ℕ) (result : Result A E)
    → length entries ≤ i → AppendsBut (lines_left play (drop i entries)) start before whole → Prints before after (end_lines play) result → Prints start after whole result
play_ends play entries i start before after whole result all appended prints =
    prints_rest (end_lines play) start before after whole result
    (subst (λ (rest : List ℕ). AppendsBut rest start before whole) (ap (lines_left play) (drop_of_length-le entries all)) appended) prints

pub ends_so : (play : Play) (entries : List HostEntry) (i : ℕ) (how : PlayEnd) → length entries ≤ i → end_left play (drop i entries) ≡ how → end_after None play.failed ≡ how
ends_so play entries i how all ends = sym (ap (end_left play) (drop_of_length-le entries all)) ∙ ends
