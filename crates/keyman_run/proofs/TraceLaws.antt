-- A trace on the tables of a source prints what the source means.
use Rattle.std.proofs.Common.{◌≡◌, ℕ, IsTrue, List, ◌++◌, None, Ok, Err, refl, sym, ◌∙◌, subst, append-nil}
use Rattle.kmn_base.specs.declared.events.Event.{Event}
use Rattle.kmn_outside.specs.Outside.{WriteCounts}
use Rattle.kmn_outside.specs.declared.traits.WriteError.{WriteError}
use Rattle.kmn_outside.specs.declared.traits.WriteError.TheVariants as write
use Rattle.rule_model.specs.declared.program.Program.{Program}
use Rattle.rule_model.specs.declared.script.Entry.{Entry}
use Rattle.rule_model.specs.declared.tables.Tables.{Tables}
use Rattle.rule_model.specs.ChosenLines.{chosen}
use Rattle.rule_model.specs.Event.{State}
use Rattle.rule_model.specs.Keyboard.{Keyboard}
use Rattle.rule_model.specs.Src.{src}
use Rattle.rule_model.specs.Tab.{tab}
use Rattle.rule_model.specs.Trace.{trace}
use Rattle.rule_model.specs.Transcript.{events_of}
use Rattle.compile_laws.specs.Ordered.{compiled_tables}
use Rattle.compile_laws.proofs.Ordered.{program_compiles}
use Rattle.rule_checker.specs.Refused.{checked}
use Rattle.rule_trace.specs.declared.coverage.Hit.{Hit}
use Rattle.rule_trace.specs.Coverage.{lines_of_tables, AreLinesOf}
use Rattle.rule_trace.proofs.Lines.{choice_kept}
use Rattle.play_transcript.proofs.KeyboardLines.{same_lines_of_tables}
use Rattle.play_transcript.proofs.TraceLaws.{same_text}
use Rattle.play_transcript.specs.TraceEnds.{trace_end}
use Rattle.play_transcript.specs.TraceText.{trace_text}
use Rattle.play_transcript.specs.declared.following.TraceEnd.{TraceEnd}
use Rattle.play_transcript.specs.declared.following.TraceEnd.TheVariants as followed
use Rattle.play_transcript.specs.Printing.{Prints}
use Rattle.kmx_format.specs.TablesOf.{tables_of}
use Rattle.kmn_compiler.proofs.Checks.{checked_accepted, checked_steps}
use Rattle.keyman_words.specs.declared.status.Status.{Status}
use Rattle.keyman_run.specs.Endings.{Ending, Job, end_of_trace, trace_ending, trace_status}
use Rattle.keyman_run.specs.Inputs.{Pictured, file_from}
use Rattle.keyman_run.specs.Orders.{source_work, pictured_work, file_work, script_work, job_work, trace_work}
use Rattle.keyman_run.specs.Run.{Does}
use Rattle.keyman_words.specs.Seen.{FolderView, SinkView}
use Rattle.keyman_words.specs.Tells.{Tells, write_status}
use Rattle.keyman_run.specs.Work.{Work, and_then}
use Rattle.keyman_run.specs.Work.Work.{Give}
use Rattle.keyman_run.proofs.MeaningLaws.{IsChecked, IsCompilable, IsOf, all_checked, all_of, job_behind}
use Rattle.keyman_run.proofs.RunLaws.{does_told}
use Rattle.keyman_run.proofs.WorkLaws.{and_then_assoc, same_behind_all}

-- an accepted program chooses the same lines as its tables
checked_choice : (source : List ℕ) (program : Program) → checked source ≡ Ok program → (state : State) (event : Event) → chosen (src program) state event ≡ chosen (tab (compiled_tables program)) state event
checked_choice source program is = choice_kept program (compiled_tables program) (checked_accepted source program is).named (program_compiles program)

-- so a trace on the tables of an accepted program prints what a trace on the program prints
checked_text : (source : List ℕ) (program : Program) → checked source ≡ Ok program → (lines : List ℕ) (entries : List Entry) → trace_text (tab (compiled_tables program)) lines entries ≡ trace_text (src program) lines entries
checked_text source program is =
    same_text (tab (compiled_tables program)) (src program) (λ events. sym (checked_steps source program is events)) (λ state event. sym (checked_choice source program is state event))

same_traced : (pictured : Pictured) (lines : List ℕ) (entries : List Entry) → IsCompilable pictured
    → trace_ending (tab (compiled_tables pictured.program)) lines entries ≡ trace_ending (src pictured.program) lines entries
same_traced pictured lines entries h = λ i.
    record {
      status = trace_status (sym (checked_steps h.source pictured.program h.is (events_of entries)) i);
      file = None;
      printed = checked_text h.source pictured.program h.is lines entries i;
    }

-- the work that follows a job, and the work that follows the program of its source by its meaning
abbrev pub trace_job : Job → Work Ending
trace_job job = Give (trace_ending (tab job.compiled.tables) (lines_of_tables job.compiled.tables) job.entries)

abbrev trace_behind : (keys : List ℕ) → Pictured → Work Ending
trace_behind keys pictured =
    and_then (script_work (src pictured.program).dictionary keys) (λ entries. Give (trace_ending (src pictured.program) (lines_of_tables (compiled_tables pictured.program)) entries))

traced_behind : (source keys : List ℕ) (program : Program) → IsChecked program → and_then (job_behind source keys program) trace_job ≡ and_then (pictured_work source program) (trace_behind keys)
traced_behind source keys program h =
    and_then_assoc (file_work source program) (λ compiled. and_then (script_work (src program).dictionary keys) (λ entries. Give (record { compiled = compiled; entries = entries }))) trace_job
    ∙ (λ i. and_then (file_work source program) (λ compiled. and_then_assoc (script_work (src program).dictionary keys) (λ entries. Give (record { compiled = compiled; entries = entries })) trace_job i))
    ∙ and_then_assoc (pictured_work source program) (λ pictured. Give (file_from pictured)) (λ compiled. and_then (script_work (src program).dictionary keys) (λ entries. trace_job (record { compiled = compiled; entries = entries })))
    ∙ same_behind_all (IsOf program) (pictured_work source program)
    (λ pictured. and_then (script_work (src program).dictionary keys) (λ entries. trace_job (record { compiled = file_from pictured; entries = entries }))) (trace_behind keys) (all_of source program h)
    (λ pictured of i. and_then (script_work (src (sym of.same i)).dictionary keys) (λ entries. Give (same_traced pictured (lines_of_tables (compiled_tables pictured.program)) entries of.compilable i)))

-- if a job is traced by its tables, the work is equal to the work of `trace`, which traces the program
pub traced_as_meant : (source keys : List ℕ) → and_then (job_work source keys) trace_job ≡ trace_work source keys
traced_as_meant source keys =
    and_then_assoc (source_work source) (job_behind source keys) trace_job
    ∙ same_behind_all IsChecked (source_work source) (λ program. and_then (job_behind source keys program) trace_job) (λ program. and_then (pictured_work source program) (trace_behind keys)) (all_checked source)
    (traced_behind source keys)
    ∙ sym (and_then_assoc (source_work source) (pictured_work source) (trace_behind keys))

-- if a file has the keyboard of tables, a run that prints the trace on the file prints the trace on the tables
pub traces_written : {S : Type 0} (bytes file : List ℕ) (tables : Tables) (slice entries : List Entry) (sinks : SinkView S) (out out_after : S) (how : Status)
    → tab (tables_of bytes) ≡ tab tables → file ≡ bytes → slice ≡ entries
    → Tells (trace_status (trace (tab (tables_of file)) (events_of slice))) (trace_text (tab (tables_of file)) (lines_of_tables (tables_of file)) slice) sinks out out_after how
    → Tells (trace_status (trace (tab tables) (events_of entries))) (trace_text (tab tables) (lines_of_tables tables) entries) sinks out out_after how
traces_written bytes file tables slice entries sinks out out_after how keyboard same same_entries tells =
    subst (λ (lines : List ℕ). Tells (trace_status (trace (tab tables) (events_of entries))) (trace_text (tab tables) lines entries) sinks out out_after how) (same_lines_of_tables tables (tables_of bytes) keyboard)
    (subst (λ (kb : Keyboard). Tells (trace_status (trace kb (events_of entries))) (trace_text kb (lines_of_tables (tables_of bytes)) entries) sinks out out_after how) keyboard
    (subst (λ (b : List ℕ). Tells (trace_status (trace (tab (tables_of b)) (events_of entries))) (trace_text (tab (tables_of b)) (lines_of_tables (tables_of b)) entries) sinks out out_after how) same
    (subst (λ (es : List Entry). Tells (trace_status (trace (tab (tables_of file)) (events_of es))) (trace_text (tab (tables_of file)) (lines_of_tables (tables_of file)) es) sinks out out_after how) same_entries tells)))

-- if a coverage is one of tables, it is one of their file
pub lines_of_file : (bytes file : List ℕ) (tables : Tables) (hits : List Hit) → tab (tables_of bytes) ≡ tab tables → file ≡ bytes → AreLinesOf tables hits → AreLinesOf (tables_of file) hits
lines_of_file bytes file tables hits keyboard same are = subst (λ (b : List ℕ). AreLinesOf (tables_of b) hits) (sym same) (are ∙ sym (same_lines_of_tables tables (tables_of bytes) keyboard))

-- if a run prints a trace, it does the work of the trace
pub does_traced : {F S : Type 0} (kb : Keyboard) (lines : List ℕ) (entries : List Entry) (folders : FolderView F) (folder : F) (sinks : SinkView S) (out out_after : S) (how : Status)
    → Tells (trace_status (trace kb (events_of entries))) (trace_text kb lines entries) sinks out out_after how → Does (Give (trace_ending kb lines entries)) folders folder folder sinks out out_after how
does_traced kb lines entries folders folder sinks out out_after how tells =
    does_told (Give (trace_ending kb lines entries)) (trace_ending kb lines entries) folders folder folder sinks out out_after how refl refl
    (λ told. (refl, record { asked = sym (append-nil (folders.calls folder)); files = λ name. refl })) tells

-- if a trace is printed whole, the run ends with the status of the trace
told_end : {S : Type 0} (end : TraceEnd) (text : List ℕ) (sinks : SinkView S) (out out_after : S) → sinks.faults out_after ≡ sinks.faults out → sinks.told out_after ≡ sinks.told out
    → (IsTrue (sinks.told out) → sinks.written out_after ≡ sinks.written out ++ text) → Tells (end_of_trace end) text sinks out out_after (end_of_trace end)
told_end followed.Done text sinks out out_after faults told prints = record { counts = (refl, faults); told = told; prints = prints }
told_end followed.Refused text sinks out out_after faults told prints = record { counts = (refl, faults); told = told; prints = prints }

pub traces_ended : {S : Type 0} (session tables : Tables) (entries : List Entry) (end : TraceEnd) (sinks : SinkView S) (out out_after : S) (how : Status) → session ≡ tables
    → how ≡ end_of_trace end → end ≡ trace_end (trace (tab session) (events_of entries)) → sinks.faults out_after ≡ sinks.faults out → sinks.told out_after ≡ sinks.told out
    → (IsTrue (sinks.told out) → sinks.written out_after ≡ sinks.written out ++ trace_text (tab session) (lines_of_tables session) entries)
    → Tells (trace_status (trace (tab tables) (events_of entries))) (trace_text (tab tables) (lines_of_tables tables) entries) sinks out out_after how
traces_ended session tables entries end sinks out out_after how same how_is is faults told prints =
    subst (λ (t : Tables). Tells (trace_status (trace (tab t) (events_of entries))) (trace_text (tab t) (lines_of_tables t) entries) sinks out out_after how) same
    (subst (λ (e : TraceEnd). Tells (end_of_trace e) (trace_text (tab session) (lines_of_tables session) entries) sinks out out_after how) is
    (subst (λ (s : Status). Tells (end_of_trace end) (trace_text (tab session) (lines_of_tables session) entries) sinks out out_after s) (sym how_is)
    (told_end end (trace_text (tab session) (lines_of_tables session) entries) sinks out out_after faults told prints)))

-- if the printing of a trace breaks off, the run ends with the status of the error
told_broken : {S : Type 0} (good : Status) (text : List ℕ) (error : WriteError) (sinks : SinkView S) (out out_after : S) → WriteCounts {X = TraceEnd} (sinks.faults out) (sinks.faults out_after) (Err error)
    → sinks.told out_after ≡ sinks.told out → (IsTrue (sinks.told out) → Prints {A = TraceEnd} {E = WriteError} (sinks.written out) (sinks.written out_after) text (Err error))
    → Tells good text sinks out out_after (write_status error)
told_broken good text write.Failed sinks out out_after counts told prints = record { counts = counts; told = told; prints = prints }
told_broken good text write.Memory sinks out out_after counts told prints = record { counts = counts; told = told; prints = prints }

pub traces_broken : {S : Type 0} (session tables : Tables) (entries : List Entry) (error : WriteError) (sinks : SinkView S) (out out_after : S) (how : Status) → session ≡ tables
    → how ≡ write_status error → WriteCounts {X = TraceEnd} (sinks.faults out) (sinks.faults out_after) (Err error) → sinks.told out_after ≡ sinks.told out
    → (IsTrue (sinks.told out) → Prints {A = TraceEnd} {E = WriteError} (sinks.written out) (sinks.written out_after) (trace_text (tab session) (lines_of_tables session) entries) (Err error))
    → Tells (trace_status (trace (tab tables) (events_of entries))) (trace_text (tab tables) (lines_of_tables tables) entries) sinks out out_after how
traces_broken session tables entries error sinks out out_after how same how_is counts told prints =
    subst (λ (t : Tables). Tells (trace_status (trace (tab t) (events_of entries))) (trace_text (tab t) (lines_of_tables t) entries) sinks out out_after how) same
    (subst (λ (s : Status). Tells (trace_status (trace (tab session) (events_of entries))) (trace_text (tab session) (lines_of_tables session) entries) sinks out out_after s) (sym how_is)
    (told_broken (trace_status (trace (tab session) (events_of entries))) (trace_text (tab session) (lines_of_tables session) entries) error sinks out out_after counts told prints))
