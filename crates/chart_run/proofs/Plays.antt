-- What is left of a script after an event, and whether a key may be pressed after it.
use Rattle.std.proofs.Common.{◌≡◌, ℕ, ◌+◌, ◌<◌, ◌≤◌, true, false, Bool, nat_lt, if◌then◌else◌, List, [], ◌∷◌, length, drop, get_or, Option, Some, Result, Ok, Err, sym, ap, subst, ◌∙◌, add-one, drop-cons}
use Rattle.std.specs.Result.{IsErrAnd}
use Rattle.std.proofs.Math.ListN.{drop_of_length-le}
use Rattle.kmn_base.specs.declared.codes.Code.{Code}
use Rattle.kmn_base.specs.declared.codes.Code.TheVariants.{E2}
use Rattle.kmn_base.specs.declared.events.Event.{Event}
use Rattle.rule_model.specs.Act.{one_more}
use Rattle.rule_model.specs.Event.{State, Happening, happening, event_of, event_refusal, unless_refused, whole_text}
use Rattle.rule_model.specs.Tab.{tab}
use Rattle.rule_model.specs.Transcript.{events_of}
use Rattle.rule_model.specs.declared.script.Entry.{Entry}
use Rattle.rule_model.specs.declared.script.Entry.TheVariants.{Act}
use Rattle.play_session.specs.Session.{SessionState, happened, after_step}
use Rattle.keyman_words.specs.declared.reason.Reason.{Reason}
use Rattle.keyman_words.specs.declared.reason.Reason.TheVariants as reason
use Rattle.keyman_run.specs.declared.preparing.Stop.{Stop}
use Rattle.keyman_run.specs.declared.preparing.Stop.TheVariants as stop
use Rattle.chart_run.specs.Drawings.{Leads, after_event, state_after, state_left}

module _ (session : SessionState) (line : ℕ) (event : Event) (entries : List Entry) where
  -- the state after the script, by the result of its first event
  abbrev left_by : Result Happening Code → Result State Reason
  left_by result = after_event (one_more session.number) (state_after (tab session.tables) (one_more (one_more session.number)) (events_of entries)) result

  -- if an event is done, the state after the script is unchanged
  pub event_done : (after : SessionState) → event_of (tab session.tables) session.state event ≡ Ok (happened session event) → after ≡ after_step session event
      → state_left session (Act line event ∷ entries) ≡ state_left after entries
  event_done after at left = ap left_by at ∙ (λ i. state_left (sym left i) entries)

  -- if an event is refused, there is no state after the script
  pub event_stops : (code : Code) → Some code ≡ event_refusal session.state event
      → state_left session (Act line event ∷ entries) ≡ Err (reason.Event (one_more session.number) code)
  event_stops code is = ap (λ (found : Option Code). left_by (unless_refused found (happening (tab session.tables) session.state event))) (sym is)

module _ (session : SessionState) (entries : List Entry) (whole : Result State Reason) (i : ℕ) (is : state_left session (drop i entries) ≡ whole) where
  module _ (d entry : Entry) (within : i < length entries) (at : entry ≡ get_or entries i d) where
    first_entry : drop i entries ≡ entry ∷ drop (i + 1) entries
    first_entry = let first : drop i entries ≡ get_or entries i d ∷ drop (i + 1) entries = rw add-one (drop-cons entries i d within) in
        first ∙ ap (λ (x : Entry). x ∷ drop (i + 1) entries) (sym at)

    -- if an entry is done, the state after the rest is the state after the script
    pub goes_on : {A : Type 0} (after : SessionState) (value : A) → Leads (state_left session (entry ∷ drop (i + 1) entries)) (state_left after (drop (i + 1) entries)) (Ok value)
        → state_left after (drop (i + 1) entries) ≡ whole
    goes_on after value leads = sym leads ∙ ap (state_left session) (sym first_entry) ∙ is

    -- if an entry stops the play, there is no state after the script for the same reason
    pub stops : (A B : Type 0) (rest other : Result State Reason) (s : Stop) → Leads {A = A} (state_left session (entry ∷ drop (i + 1) entries)) rest (Err s) → Leads {A = B} whole other (Err s)
    stops A B rest other (stop.Refused why) leads = sym is ∙ ap (state_left session) first_entry ∙ leads
    stops A B rest other stop.ReadFault leads = leads
    stops A B rest other stop.Memory leads = tt

  -- if there are no more entries, the state after the script is the present one
  pub all_played : length entries ≤ i → whole ≡ state_left session []
  all_played all = sym is ∙ ap (state_left session) (drop_of_length-le entries all)

-- if a play stops for a reason, a result that is this stop leads nowhere for the same reason
pub leads_handed : (A B : Type 0) (whole rest other : Result State Reason) (s : Stop) (result : Result A Stop) → IsErrAnd result (λ given. given ≡ s)
    → Leads {A = B} whole rest (Err s) → Leads whole other result
leads_handed A B whole rest other s (Ok value) is leads = absurd is
leads_handed A B whole rest other s (Err given) is leads = subst (λ (t : Stop). Leads {A = A} whole other (Err t)) (sym is) (same s leads)
  where
    same : (t : Stop) → Leads {A = B} whole rest (Err t) → Leads {A = A} whole other (Err t)
    same (stop.Refused why) leads = leads
    same stop.ReadFault leads = leads
    same stop.Memory leads = tt

-- if the first events of a script are done, the rest of the play is the rest of the script
pub leads_behind : (A : Type 0) (whole next rest : Result State Reason) (result : Result A Stop) → whole ≡ next → Leads next rest result → Leads whole rest result
leads_behind A whole next rest result is leads = subst (λ (end : Result State Reason). Leads end rest result) (sym is) leads

-- a text that is too long for a key press, and one that is not
pub is_full : (session : SessionState) → nat_lt 995_000 (length (whole_text session.state)) ≡ true → state_left session [] ≡ Err (reason.Event (one_more session.number) E2)
is_full session more = ap (λ (b : Bool). if b then Err (reason.Event (one_more session.number) E2) else Ok session.state) more

pub has_room : (session : SessionState) → nat_lt 995_000 (length (whole_text session.state)) ≡ false → state_left session [] ≡ Ok session.state
has_room session within = ap (λ (b : Bool). if b then Err (reason.Event (one_more session.number) E2) else Ok session.state) within
