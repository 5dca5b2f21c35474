-- The results of the steps of a load, and the result of a play that is counted event by event.
use Rattle.std.proofs.Common.{◌≡◌, ◌≢◌, ◌↔◌, ℕ, ◌+◌, ◌<◌, ◌≤◌, Bool, true, false, if◌then◌else◌, List, [], ◌∷◌, length, suc, drop, get_or, Option, Some, Result, Ok, Err, refl, sym, ap, ◌∙◌, subst, add-one, drop-cons, append-nil, arith}
use Rattle.std.specs.Prelude.{is_some}
use Rattle.std.specs.Result.{IsErrAnd}
use Rattle.std.proofs.Math.ListN.{drop_of_length-le}
use Rattle.kmn_base.specs.Answers.{and_then as result_then}
use Rattle.kmn_base.specs.declared.codes.Code.{Code}
use Rattle.kmn_base.specs.declared.events.Event.{Event}
use Rattle.kmn_base.specs.declared.refusals.CompileError.{CompileError}
use Rattle.kmn_base.specs.declared.refusals.CompileError.TheVariants as compile
use Rattle.kmn_compiler.specs.Source.{CompilesTo}
use Rattle.kmn_compiler.specs.declared.compiling.Compiled.{Compiled}
use Rattle.kmx_format.specs.File.{all_rules, file_of}
use Rattle.kmx_format.specs.Writable.{IsFile}
use Rattle.kmx_verifier.specs.declared.faults.VerifyError.{VerifyError}
use Rattle.kmx_verifier.specs.declared.faults.VerifyError.TheVariants as verify
use Rattle.kmx_verifier.specs.FaultOf.{fault_of, IsRefusal}
use Rattle.play_session.specs.Session.{SessionState, first_session, happened, after_step}
use Rattle.rule_model.specs.Act.{one_more}
use Rattle.rule_model.specs.Event.{Happening, happening, event_of, event_refusal, unless_refused, whole_text}
use Rattle.rule_model.specs.Tab.{tab}
use Rattle.rule_model.specs.Trace.{Steps, Trace, steps_from, step_then, trace}
use Rattle.rule_model.specs.Transcript.{events_of}
use Rattle.rule_model.specs.declared.program.Program.{Program}
use Rattle.rule_model.specs.declared.script.Entry.{Entry}
use Rattle.rule_model.specs.declared.script.Entry.TheVariants.{Act}
use Rattle.rule_model.specs.declared.tables.Tables.{Tables}
use Rattle.keyman_run.specs.declared.loading.Progress.{Progress}
use Rattle.keyman_run.specs.declared.loading.Sums.{Sums}
use Rattle.keyman_run.specs.declared.preparing.Stop.{Stop}
use Rattle.keyman_run.specs.declared.preparing.Stop.TheVariants as stop
use Rattle.keyman_words.specs.declared.reason.Reason.{Reason}
use Rattle.keyman_words.specs.declared.reason.Reason.TheVariants as reason
use Rattle.keyman_run.specs.Inputs.{file_from, pictured_within, unless_large}
use Rattle.load_maker.specs.Plays.{items_put, last_state}
use Rattle.load_maker.specs.declared.load.LoadError.{LoadError}
use Rattle.load_maker.specs.declared.load.LoadError.TheVariants as load
use Rattle.load_maker.specs.Loads.{is_in_range, load_source, load_script}
use Rattle.keyman_run.specs.Loads.{compiled_within, job_of, load_job, load_line, load_text, played_load, sums_behind, sums_from, sums_of, sums_left, unless_stopped, no_progress, LeadsTo}
use Rattle.keyman_words.specs.declared.status.Status.{Status}
use Rattle.keyman_words.specs.declared.status.Status.TheVariants as status
use Rattle.keyman_run.specs.Endings.{Job, load_ending, refused_ending}
use Rattle.keyman_words.specs.Command.{Request, is_form, request_of}
use Rattle.keyman_words.specs.Command.Request.{Load}
use Rattle.keyman_run.specs.Orders.{work_of}
use Rattle.keyman_run.specs.Run.{Does}
use Rattle.keyman_words.specs.Seen.{FolderView, SinkView}
use Rattle.keyman_words.specs.Tells.{Tells}
use Rattle.keyman_run.specs.Steps.{States, PrintsLoad, PrintsStop, compile_stop, load_stop, verify_stop, itself}
use Rattle.keyman_run.specs.Work.{given, and_then}
use Rattle.keyman_run.specs.Work.Work.{Give, Refuse}
use Rattle.play_transcript.proofs.PrintingLaws.{none_begun}
use Rattle.keyman_run.proofs.FileRuns.{never_refused}
use Rattle.keyman_run.proofs.RunLaws.{does_told}
use Rattle.keyman_run.proofs.StatedLoads.{load_stated}

-- if a step has its value and the next step on this value has its result, both steps together have this result
pub states_behind : {A B C D : Type 0} (seen : A → B) (seen_more : C → D) (part : Result B Reason) (more : B → Result D Reason) (value : A) (result : Result C Stop)
    → States seen part (Ok value) → States seen_more (more (seen value)) result → States seen_more (result_then part more) result
states_behind {A} {B} {C} {D} seen seen_more part more value result is states =
    subst (λ (read : Result B Reason). States seen_more (result_then read more) result) (sym is) states

-- if a step stops, it and the next step together stop for the same reason
pub states_stopped : {A B C D : Type 0} (seen : A → B) (seen_more : C → D) (part : Result B Reason) (more : B → Result D Reason) (s : Stop)
    → States {A = A} seen part (Err s) → States {A = C} seen_more (result_then part more) (Err s)
states_stopped seen seen_more part more (stop.Refused why) is = ap (λ read. result_then read more) is
states_stopped seen seen_more part more stop.ReadFault is = is
states_stopped seen seen_more part more stop.Memory is = tt

-- if a result is a stop, and this stop is the specified result, the result is the specified one
pub states_handed : {A B : Type 0} (seen : A → B) (stated : Result B Reason) (s : Stop) (result : Result A Stop) → IsErrAnd result (λ given. given ≡ s)
    → States {A = A} seen stated (Err s) → States seen stated result
states_handed seen stated s (Ok value) is states = absurd is
states_handed {A} seen stated s (Err given) is states = subst (λ (t : Stop). States {A = A} seen stated (Err t)) (sym is) states

-- if a program is compiled without a picture, its file or its refusal is the specified result
pub compiled_states : (program : Program) (compiled : Compiled) → CompilesTo (Ok program) [] (Ok compiled) → States itself (compiled_within program) (Ok compiled)
compiled_states program compiled h =
    let same : h.0 ≡ program = cc in
    let within : pictured_within h.0 [] ≡ Ok (record { program = h.0; picture = [] }) = ap (unless_large (record { program = h.0; picture = [] })) h.2.within in
    let file : compiled ≡ file_from (record { program = h.0; picture = [] }) =
    λ i. record { bytes = (h.2.bytes ∙ ap (λ (t : Tables). file_of t []) h.2.tables) i; tables = h.2.tables i } in
    ap compiled_within (sym same) ∙ ap (λ read. result_then read (λ pictured. Ok (file_from pictured))) within ∙ ap Ok (sym file)

pub uncompiled_states : (program : Program) (error : CompileError) → CompilesTo (Ok program) [] (Err error) → States {A = Compiled} itself (compiled_within program) (Err (compile_stop error))
uncompiled_states program (compile.Refused refusal) h = absurd (cc)
uncompiled_states program (compile.TooLarge code size) h =
    let same : h.0 ≡ program = cc in
    let large : pictured_within h.0 [] ≡ Err (reason.Size code size) = ap (unless_large (record { program = h.0; picture = [] })) h.2 in
    ap compiled_within (sym same) ∙ ap (λ read. result_then read (λ pictured. Ok (file_from pictured))) large
uncompiled_states program compile.Memory h = tt

-- if a number is in its range, the result for its source and script is the result for its load; if it isn't, the load is refused
pub made_states : {A : Type 0} (seen : A → Job) (number : ℕ) (source script : List ℕ) (result : Result A Stop) → (is_in_range number ≡ false → ⊥)
    → source ≡ load_source number → script ≡ load_script number → States seen (job_of source script) result → States seen (load_job number) result
made_states {A} seen number source script result inside is_source is_script states =
    subst (λ (read : Result Job Reason). States seen read result) (sym (by_range (is_in_range number) inside))
    (subst (λ (text : List ℕ). States seen (job_of text (load_script number)) result) is_source
    (subst (λ (text : List ℕ). States seen (job_of source text) result) is_script states))
  where
    by_range : (is_in : Bool) → (is_in ≡ false → ⊥) → (if is_in then job_of (load_source number) (load_script number) else Err reason.Number) ≡ job_of (load_source number) (load_script number)
    by_range true never = refl
    by_range false never = absurd (never refl)

pub unmade_states : {A : Type 0} (seen : A → Job) (number : ℕ) (error : LoadError) → (error ≡ load.Range → is_in_range number ≡ false) → States {A = A} seen (load_job number) (Err (load_stop error))
unmade_states seen number load.Range range = ap (λ (is_in : Bool). if is_in then job_of (load_source number) (load_script number) else Err reason.Number) (range refl)
unmade_states seen number load.Memory range = tt

-- if bytes are a file of writable tables, their opening stops only because an allocation failed
pub unopened_states : {A B : Type 0} (seen : A → B) (stated : Result B Reason) (bytes : List ℕ) (error : VerifyError) → IsFile bytes → IsRefusal error (λ fault. fault_of bytes ≡ Some fault)
    → States {A = A} seen stated (Err (verify_stop error))
unopened_states seen stated bytes (verify.Refused fault) file is = absurd (never_refused bytes fault file is)
unopened_states seen stated bytes verify.Memory file is = tt

-- the line that follows the sums of a play, and the play and line that follow a job
abbrev pub line_behind : ℕ → Compiled → Sums → Result (List ℕ) Reason
line_behind number compiled sums = Ok (load_line number (length (all_rules compiled.tables)) (length compiled.bytes) sums)

abbrev pub play_behind : ℕ → Job → Result (List ℕ) Reason
play_behind number job = result_then (sums_of (trace (tab job.compiled.tables) (events_of job.entries))) (line_behind number job.compiled)

-- at the start of a play, the sums of the whole play are still to be counted
nothing_before : (sums : Sums) → sums_behind no_progress sums ≡ sums
nothing_before sums =
    let events : 0 + sums.events ≡ sums.events = omega arith in
    let put : 0 + sums.put ≡ sums.put = omega arith in
    λ i. record { events = events i; put = put i; text = sums.text }

pub sums_begin : (session : SessionState) (tables : Tables) (entries : List Entry) → session ≡ first_session tables
    → sums_left session no_progress entries ≡ sums_of (trace (tab tables) (events_of entries))
unfolding trace
sums_begin session tables entries is =
    let traced : Trace = trace (tab tables) (events_of entries) in
    ap (λ (s : SessionState). sums_left s no_progress entries) is ∙ ap (λ (sums : Sums). unless_stopped sums traced.refused) (nothing_before (sums_from traced.first traced.done))

module _ (session : SessionState) (progress : Progress) (line : ℕ) (event : Event) (entries : List Entry) where
  -- the steps from an event on, by the result of the event
  abbrev steps_by : Result Happening Code → Steps
  steps_by result = step_then (one_more session.number) (steps_from (tab session.tables) (one_more (one_more session.number)) (events_of entries)) result

  abbrev sums_by : Result Happening Code → Result Sums Reason
  sums_by result = unless_stopped (sums_behind progress (sums_from session.state (steps_by result).done)) (steps_by result).refused

  -- if one step is counted, the total of the counted steps and the remaining steps is unchanged
  abbrev one_counted : Happening → Progress
  one_counted happened = record { number = one_more session.number; events = progress.events + 1; put = progress.put + happened.outcome.put }

  step_counted : (happened : Happening) → sums_by (Ok happened) ≡ sums_left (record session { state = happened.after; number = one_more session.number }) (one_counted happened) entries
  step_counted happened =
      let rest : Steps = steps_from (tab session.tables) (one_more (one_more session.number)) (events_of entries) happened.after in
      let events : progress.events + suc (length rest.done) ≡ progress.events + 1 + length rest.done = omega arith in
      let put : progress.put + (happened.outcome.put + items_put rest.done) ≡ progress.put + happened.outcome.put + items_put rest.done = omega arith in
      λ i. unless_stopped (record { events = events i; put = put i; text = length (whole_text (last_state happened.after rest.done)) }) rest.refused

  -- if an event is done and counted, the result of the play is unchanged
  pub event_counted : (after : SessionState) (next : Progress) → event_of (tab session.tables) session.state event ≡ Ok (happened session event) → after ≡ after_step session event
      → next ≡ record { number = one_more session.number; events = progress.events + 1; put = progress.put + (happened session event).outcome.put }
      → sums_left session progress (Act line event ∷ entries) ≡ sums_left after next entries
  event_counted after next at left counted = ap sums_by at ∙ step_counted (happened session event) ∙ (λ i. sums_left (sym left i) (sym counted i) entries)

  -- if an event is refused, the result of the play is its refusal
  pub event_stops : (code : Code) → Some code ≡ event_refusal session.state event
      → sums_left session progress (Act line event ∷ entries) ≡ Err (reason.Event (one_more session.number) code)
  event_stops code is = ap (λ (found : Option Code). sums_by (unless_refused found (happening (tab session.tables) session.state event))) (sym is)

module _ (session : SessionState) (progress : Progress) (entries : List Entry) (whole : Result Sums Reason) (i : ℕ) (is : sums_left session progress (drop i entries) ≡ whole) where
  module _ (d entry : Entry) (within : i < length entries) (at : entry ≡ get_or entries i d) where
    first_entry : drop i entries ≡ entry ∷ drop (i + 1) entries
    first_entry = let first : drop i entries ≡ get_or entries i d ∷ drop (i + 1) entries = rw add-one (drop-cons entries i d within) in
        first ∙ ap (λ (x : Entry). x ∷ drop (i + 1) entries) (sym at)

    -- if an entry is counted, the result of the play after it is the result of the whole play
    pub goes_on : (after : SessionState) (next : Progress) → LeadsTo (sums_left session progress (entry ∷ drop (i + 1) entries)) (λ n. sums_left after n (drop (i + 1) entries)) (Ok next)
        → sums_left after next (drop (i + 1) entries) ≡ whole
    goes_on after next leads = sym leads ∙ ap (sums_left session progress) (sym first_entry) ∙ is

    -- if an entry stops the play, the result of the whole play is this stop
    pub stops : (rest : Progress → Result Sums Reason) (s : Stop) → LeadsTo (sums_left session progress (entry ∷ drop (i + 1) entries)) rest (Err s) → States {A = Sums} itself whole (Err s)
    stops rest (stop.Refused why) leads = sym is ∙ ap (sums_left session progress) first_entry ∙ leads
    stops rest stop.ReadFault leads = leads
    stops rest stop.Memory leads = tt

  -- if there are no more entries, the result of the play is what was counted
  pub all_counted : length entries ≤ i → whole ≡ Ok (record { events = progress.events; put = progress.put; text = length (whole_text session.state) })
  all_counted all =
      let events : progress.events + 0 ≡ progress.events = omega arith in
      let put : progress.put + 0 ≡ progress.put = omega arith in
      sym is ∙ ap (sums_left session progress) (drop_of_length-le entries all) ∙ (λ j. Ok (record { events = events j; put = put j; text = length (whole_text session.state) }))

-- if a run prints the line of a load, or the reason for which it stops, it satisfies `PrintsLoad`
tells_loaded : {S : Type 0} (loaded : Result (List ℕ) Reason) (slice line : List ℕ) (sinks : SinkView S) (out out_after : S) (how : Status) → loaded ≡ Ok line → slice ≡ line
    → Tells status.Done slice sinks out out_after how → PrintsLoad loaded sinks out out_after how
tells_loaded loaded slice line sinks out out_after how is same tells =
    subst (λ (read : Result (List ℕ) Reason). PrintsLoad read sinks out out_after how) (sym is) (subst (λ (l : List ℕ). Tells status.Done l sinks out out_after how) same tells)

nothing_told : {S : Type 0} (loaded : Result (List ℕ) Reason) (sinks : SinkView S) (out : S) → PrintsLoad loaded sinks out out status.Memory
nothing_told (Ok line) sinks out = record { counts = refl; told = refl; prints = λ told. none_begun (sinks.written out) _ }
nothing_told (Err why) sinks out = record { counts = refl; told = refl; prints = λ told. none_begun (sinks.written out) _ }

tells_unloaded : {S : Type 0} (loaded : Result (List ℕ) Reason) (s : Stop) (sinks : SinkView S) (out out_after : S) (how : Status) → States {A = List ℕ} itself loaded (Err s)
    → PrintsStop s sinks out out_after how → PrintsLoad loaded sinks out out_after how
tells_unloaded loaded (stop.Refused why) sinks out out_after how is tells =
    subst (λ (read : Result (List ℕ) Reason). PrintsLoad read sinks out out_after how) (sym is) tells
tells_unloaded loaded stop.ReadFault sinks out out_after how is tells = absurd is
tells_unloaded {S} loaded stop.Memory sinks out out_after how is tells =
    subst (λ (o : S). PrintsLoad loaded sinks out o how) (sym tells.1)
    (subst (λ (s : Status). PrintsLoad loaded sinks out out s) (sym tells.0) (nothing_told loaded sinks out))

-- the same for the load of a number, from the result of playing it
pub load_told : {S : Type 0} (number : ℕ) (slice line : List ℕ) (sinks : SinkView S) (out out_after : S) (how : Status) → played_load number ≡ Ok line → slice ≡ line
    → Tells status.Done slice sinks out out_after how → PrintsLoad (load_text number) sinks out out_after how
load_told number slice line sinks out out_after how is same tells =
    subst (λ (loaded : Result (List ℕ) Reason). PrintsLoad loaded sinks out out_after how) (load_stated number)
    (tells_loaded (played_load number) slice line sinks out out_after how is same tells)

pub stop_told : {S : Type 0} (number : ℕ) (s : Stop) (sinks : SinkView S) (out out_after : S) (how : Status) → States {A = List ℕ} itself (played_load number) (Err s)
    → PrintsStop s sinks out out_after how → PrintsLoad (load_text number) sinks out out_after how
stop_told number s sinks out out_after how is tells =
    subst (λ (loaded : Result (List ℕ) Reason). PrintsLoad loaded sinks out out_after how) (load_stated number)
    (tells_unloaded (played_load number) s sinks out out_after how is tells)

-- if a run prints the result of a load, it does the work of the load
pub does_load : {F S : Type 0} (loaded : Result (List ℕ) Reason) (folders : FolderView F) (folder : F) (sinks : SinkView S) (out out_after : S) (how : Status)
    → PrintsLoad loaded sinks out out_after how → Does (and_then (given loaded) (λ line. Give (load_ending line))) folders folder folder sinks out out_after how
does_load (Ok line) folders folder sinks out out_after how tells =
    does_told (Give (load_ending line)) (load_ending line) folders folder folder sinks out out_after how refl refl
    (λ told. (refl, record { asked = sym (append-nil (folders.calls folder)); files = λ name. refl })) tells
does_load (Err why) folders folder sinks out out_after how tells =
    does_told (Refuse why) (refused_ending why) folders folder folder sinks out out_after how refl refl
    (λ told. (refl, record { asked = sym (append-nil (folders.calls folder)); files = λ name. refl })) tells

-- the same for a request of a load
pub load_runs : {F S : Type 0} (number : ℕ) (request : Option Request) (folders : FolderView F) (folder : F) (sinks : SinkView S) (out out_after : S) (how : Status)
    → Some (Load number) ≡ request → PrintsLoad (load_text number) sinks out out_after how → Does (work_of request) folders folder folder sinks out out_after how
load_runs number request folders folder sinks out out_after how is tells =
    subst (λ (r : Option Request). Does (work_of r) folders folder folder sinks out out_after how) is
    (does_load (load_text number) folders folder sinks out out_after how tells)

-- if arguments make a request and the status is not `Words`, the status is `Words` exactly where the arguments are not a command
pub is_asked : (words : List (List ℕ)) (request : Request) (how : Status) → Some request ≡ request_of words → how ≢ status.Words → (how ≡ status.Words) ↔ (is_form words ≡ false)
is_asked words request how is form = (
  λ how_is. absurd (form how_is),
  λ none. let yes : is_some (request_of words) ≡ true = ap is_some (sym is) in absurd (cc),
)
