-- A run ends as the meaning of its source determines, and the file that it writes means the source.
use Rattle.std.proofs.Common.{◌≡◌, ◌⊎◌, inl, inr, ℕ, Bool, true, false, ◌||◌, IsTrue, List, [], ◌∷◌, ◌++◌, map, Option, Some, None, Result, Ok, Err, refl, ap, sym, ◌∙◌, subst, append_assoc, append-nil}
use Rattle.std.specs.Prelude.{option_map, IsSomeAnd}
use Rattle.std.specs.List.{list_any}
use Rattle.std.specs.Option.{option_map_or}
use Rattle.std.proofs.lemmas.List.{append_cancel_left, map-append}
use Rattle.std.proofs.lemmas.List.Folds.{list_any-append}
use Rattle.std.proofs.lemmas.Option.{same_Some}
use Rattle.kmn_base.specs.declared.codes.Code.{Code}
use Rattle.kmn_base.specs.declared.refusals.Refusal.{Refusal}
use Rattle.kmn_outside.specs.Outside.{Files, Rose, Writes}
use Rattle.kmn_outside.specs.declared.traits.Call.{Call}
use Rattle.kmn_outside.specs.declared.traits.WriteError.{WriteError}
use Rattle.kmn_outside.specs.declared.traits.WriteError.TheVariants as write
use Rattle.kmx_writer.specs.Excess.{excess}
use Rattle.rule_model.specs.declared.program.Program.{Program}
use Rattle.rule_model.specs.declared.script.Entry.{Entry}
use Rattle.compile_laws.specs.Means.{Means}
use Rattle.compile_laws.specs.Ordered.{compiled_tables}
use Rattle.rule_model.specs.Src.{src}
use Rattle.rule_model.specs.Tab.{tab}
use Rattle.rule_model.specs.Transcript.{events_of}
use Rattle.rule_checker.specs.Refused.{checked}
use Rattle.kmn_compiler.specs.Picture.{picture_name}
use Rattle.kmn_compiler.specs.declared.compiling.Compiled.{Compiled}
use Rattle.kmn_compiler.proofs.Checks.{checked_means, checked_steps, checked_prints}
use Rattle.keyman_run.specs.declared.preparing.Stop.{Stop}
use Rattle.keyman_run.specs.declared.preparing.Stop.TheVariants as stop
use Rattle.keyman_words.specs.declared.reason.Reason.{Reason}
use Rattle.keyman_words.specs.declared.status.Status.{Status}
use Rattle.keyman_words.specs.declared.status.Status.TheVariants as status
use Rattle.keyman_run.specs.Asked.{Ask, write_of, answered, failed, AsksAll, AsksUntil, AsksBy, has_written, HasWritten}
use Rattle.keyman_run.specs.Endings.{Ending, Job, conclusion, refused_ending, compile_ending, test_ending, play_status, ends, file_asks, writes}
use Rattle.keyman_run.specs.Inputs.{Pictured, by_line, file_from, picture_of, pictured_within, program_of, unless_large}
use Rattle.keyman_run.specs.Orders.{source_work, picture_work, pictured_work, program_work, file_work, compiled_work, script_work, job_work, compile_work, test_work}
use Rattle.keyman_run.specs.Run.{Written, HasRead, HasWorked, HasFailedToWrite, LeavesBy, Does, SourceMeans}
use Rattle.keyman_words.specs.Seen.{FolderView, SinkView, FolderState, SinkState, seen_folder, seen_sink}
use Rattle.keyman_run.specs.Steps.{GivesBy}
use Rattle.keyman_run.specs.Work.{Reading, Work, given, and_then, reading_of, reads, comes_to}
use Rattle.keyman_run.specs.Work.Reading.{Bytes, Over}
use Rattle.keyman_run.specs.Work.Work.{Give, Refuse, Read}
use Rattle.keyman_run.proofs.AskedLaws.{first_front, until_front, first_all}
use Rattle.keyman_run.proofs.WorkLaws.{AllGive, all_given, all_behind_all, same_behind_all, comes_to_all, comes_behind, comes_and_then, and_then_assoc}

-- the program of an accepted source, and a picture with which its file keeps the limits
pub record IsCompilable (pictured : Pictured) : Type 0 where
  pub source : List ℕ
  pub is : checked source ≡ Ok pictured.program
  pub within : excess (compiled_tables pictured.program) pictured.picture ≡ None

-- a program of an accepted source
abbrev pub IsChecked : Program → Type 0
IsChecked program = (source : List ℕ) × (checked source ≡ Ok program)

line_read : (source : List ℕ) (read : Result Program Refusal) (program : Program) → checked source ≡ read → by_line read ≡ Ok program → IsChecked program
line_read source (Ok found) program is same =
    let e : found ≡ program = cc in
    (source, is ∙ ap Ok e)
line_read source (Err refusal) program is same = absurd (cc)

reading_checked : (reading : Reading) (program : Program) → program_of reading ≡ Ok program → IsChecked program
reading_checked (Bytes source) program is = line_read source (checked source) program refl is
reading_checked (Over size) program is = absurd (cc)

pub all_checked : (source : List ℕ) → AllGive IsChecked (source_work source)
all_checked source = λ reading. all_given IsChecked (program_of reading) (reading_checked reading)

-- the condition on a picture, which every byte list satisfies
abbrev IsPicture : List ℕ → Type 0
IsPicture picture = Unit {0}

all_pictures : (source : List ℕ) (name : Option (List ℕ)) → AllGive IsPicture (picture_work source name)
all_pictures source None = tt
all_pictures source (Some name) = λ reading. all_given IsPicture (picture_of reading) (λ picture is. tt)

-- this program, and a picture with which its file keeps the limits
pub record IsOf (program : Program) (pictured : Pictured) : Type 0 where
  pub same : pictured.program ≡ program
  pub compilable : IsCompilable pictured

within_of : (program : Program) (picture : List ℕ) (passed : Option (Code × ℕ)) (pictured : Pictured) → IsChecked program → excess (compiled_tables program) picture ≡ passed
    → unless_large (record { program = program; picture = picture }) passed ≡ Ok pictured → IsOf program pictured
within_of program picture None pictured h is same =
    let e : record { program = program; picture = picture } ≡ pictured = cc in
    subst (IsOf program) e (record { same = refl; compilable = record { source = h.0; is = h.1; within = is } })
within_of program picture (Some more) pictured h is same = absurd (cc)

pub all_of : (source : List ℕ) (program : Program) → IsChecked program → AllGive (IsOf program) (pictured_work source program)
all_of source program h =
    all_behind_all IsPicture (IsOf program) (picture_work source (picture_name program)) (λ picture. given (pictured_within program picture)) (all_pictures source (picture_name program))
    (λ picture any. all_given (IsOf program) (pictured_within program picture) (λ pictured is. within_of program picture (excess (compiled_tables program) picture) pictured h refl is))

all_compilable_of : (source : List ℕ) (program : Program) → IsChecked program → AllGive IsCompilable (pictured_work source program)
all_compilable_of source program h =
    all_behind_all IsPicture IsCompilable (picture_work source (picture_name program)) (λ picture. given (pictured_within program picture)) (all_pictures source (picture_name program))
    (λ picture any. all_given IsCompilable (pictured_within program picture) (λ pictured is. (within_of program picture (excess (compiled_tables program) picture) pictured h refl is).compilable))

-- if the work on a source produces a program with a picture, these can be compiled
pub all_compilable : (source : List ℕ) → AllGive IsCompilable (program_work source)
all_compilable source = all_behind_all IsChecked IsCompilable (source_work source) (pictured_work source) (all_checked source) (all_compilable_of source)

-- if a source has a program with a picture, the file that it compiles to means the program
pub program_means : (files : Files) (source : List ℕ) (pictured : Pictured) → comes_to files (program_work source) ≡ Some (Ok pictured) → Means (file_from pictured).bytes pictured.program
program_means files source pictured is =
    let h : IsCompilable pictured = comes_to_all IsCompilable files (program_work source) pictured (all_compilable source) is in
    checked_means h.source pictured.program h.is pictured.picture h.within

-- if a program can be compiled, playing on its tables has the same ending as playing the program
same_played : (name bytes : List ℕ) (pictured : Pictured) (entries : List Entry) → IsCompilable pictured
    → test_ending name bytes (tab (compiled_tables pictured.program)) entries ≡ test_ending name bytes (src pictured.program) entries
same_played name bytes pictured entries h = λ i.
    record {
      status = play_status (sym (checked_steps h.source pictured.program h.is (events_of entries)) i) entries;
      file = Some (name, bytes);
      printed = sym (checked_prints h.source pictured.program h.is entries) i;
    }

-- work that follows the file of a source is equal to work that follows its program with the picture
pub file_behind : {A : Type 0} (source : List ℕ) (more : Compiled → Work A) → and_then (compiled_work source) more ≡ and_then (program_work source) (λ pictured. more (file_from pictured))
file_behind source more =
    and_then_assoc (source_work source) (file_work source) more
    ∙ (λ i. and_then (source_work source) (λ program. and_then_assoc (pictured_work source program) (λ pictured. Give (file_from pictured)) more i))
    ∙ sym (and_then_assoc (source_work source) (pictured_work source) (λ pictured. more (file_from pictured)))

abbrev pub play_job : List ℕ → Job → Work Ending
play_job file job = Give (test_ending file job.compiled.bytes (tab job.compiled.tables) job.entries)

-- the work of a job that follows the program of its source, and the work that follows the program by its meaning
abbrev pub job_behind : (source keys : List ℕ) → Program → Work Job
job_behind source keys program =
    and_then (file_work source program) (λ compiled.
    and_then (script_work (src program).dictionary keys) (λ entries.
    Give (record { compiled = compiled; entries = entries })))

abbrev test_behind : (file keys : List ℕ) → Pictured → Work Ending
test_behind file keys pictured =
    and_then (script_work (src pictured.program).dictionary keys) (λ entries. Give (test_ending file (file_from pictured).bytes (src pictured.program) entries))

played_behind : (source file keys : List ℕ) (program : Program) → IsChecked program → and_then (job_behind source keys program) (play_job file) ≡ and_then (pictured_work source program) (test_behind file keys)
played_behind source file keys program h =
    and_then_assoc (file_work source program) (λ compiled. and_then (script_work (src program).dictionary keys) (λ entries. Give (record { compiled = compiled; entries = entries }))) (play_job file)
    ∙ (λ i. and_then (file_work source program) (λ compiled. and_then_assoc (script_work (src program).dictionary keys) (λ entries. Give (record { compiled = compiled; entries = entries })) (play_job file) i))
    ∙ and_then_assoc (pictured_work source program) (λ pictured. Give (file_from pictured)) (λ compiled. and_then (script_work (src program).dictionary keys) (λ entries. play_job file (record { compiled = compiled; entries = entries })))
    ∙ same_behind_all (IsOf program) (pictured_work source program)
    (λ pictured. and_then (script_work (src program).dictionary keys) (λ entries. play_job file (record { compiled = file_from pictured; entries = entries }))) (test_behind file keys) (all_of source program h)
    (λ pictured of i. and_then (script_work (src (sym of.same i)).dictionary keys) (λ entries. Give (same_played file (file_from pictured).bytes pictured entries of.compilable i)))

-- if a job is played by its tables, the work is equal to the work of `test`, which plays the program
pub as_meant : (source file keys : List ℕ) → and_then (job_work source keys) (play_job file) ≡ test_work source file keys
as_meant source file keys =
    and_then_assoc (source_work source) (job_behind source keys) (play_job file)
    ∙ same_behind_all IsChecked (source_work source) (λ program. and_then (job_behind source keys program) (play_job file)) (λ program. and_then (pictured_work source program) (test_behind file keys)) (all_checked source)
    (played_behind source file keys)
    ∙ sym (and_then_assoc (source_work source) (pictured_work source) (test_behind file keys))

pub does_as : {F S : Type 0} (work other : Work Ending) (folders : FolderView F) (folder after : F) (sinks : SinkView S) (out out_after : S) (how : Status)
    → work ≡ other → Does work folders folder after sinks out out_after how → Does other folders folder after sinks out out_after how
does_as work other folders folder after sinks out out_after how same does = subst (λ (w : Work Ending). Does w folders folder after sinks out out_after how) same does

-- no read is a write
found_none : {A : Type 0} (files : Files) (limit : ℕ) (next : Reading → Work A) (found : Option (List ℕ)) → ((reading : Reading) → list_any has_written (map answered (reads files (next reading))) ≡ false)
    → list_any has_written (map answered (option_map_or (λ bytes. reads files (next (reading_of limit bytes))) found [])) ≡ false
found_none files limit next None all = refl
found_none files limit next (Some bytes) all = all (reading_of limit bytes)

pub reads_none : {A : Type 0} (files : Files) (work : Work A) → list_any has_written (map answered (reads files work)) ≡ false
reads_none files (Give value) = refl
reads_none files (Refuse why) = refl
reads_none files (Read name limit next) = found_none files limit next (files name) (λ reading. reads_none files (next reading))

-- if none of the calls that were made is a write that did not fail, `HasWritten` is false
never_written : {R : Type 0} (before after made : List Call) → after ≡ before ++ made → list_any has_written made ≡ false → HasWritten before after → R
never_written before after made is none written =
    let same : made ≡ written.made = append_cancel_left before made written.made (sym is ∙ written.added) in
    let no : IsTrue false = subst IsTrue (ap (list_any has_written) (sym same) ∙ none) written.written in
    absurd (cc)

none_in_front : (front rest : List Call) → list_any has_written (front ++ rest) ≡ false → list_any has_written front ≡ false
none_in_front front rest none = left (list_any has_written front) (list_any has_written rest) (sym (list_any-append has_written front rest) ∙ none)
  where
    left : (a b : Bool) → (a || b) ≡ false → a ≡ false
    left true b is = is
    left false b is = refl

none_of_both : (front rest : List Call) → list_any has_written front ≡ false → list_any has_written rest ≡ false → list_any has_written (front ++ rest) ≡ false
none_of_both front rest none other = list_any-append has_written front rest ∙ (λ i. none i || other i)

reads_begun : (wanted front rest : List Ask) → list_any has_written (map answered wanted) ≡ false → wanted ≡ front ++ rest → list_any has_written (map answered front) ≡ false
reads_begun wanted front rest none parts = none_in_front (map answered front) (map answered rest)
    (ap (list_any has_written) (sym (map-append answered front rest)) ∙ ap (λ asks. list_any has_written (map answered asks)) (sym parts) ∙ none)

-- if work stopped, none of its writes succeeded
pub stopped_unwritten : {A B R : Type 0} (seen : A → B) (work : Work B) (before after : FolderState) (s : Stop) → GivesBy seen (reads before.files work) (comes_to before.files work) before after (Err s)
    → HasWritten before.calls after.calls → R
stopped_unwritten seen work before after (stop.Refused why) g written =
    never_written before.calls after.calls (map answered (reads before.files work)) g.1.asked (reads_none before.files work) written
stopped_unwritten seen work before after stop.ReadFault g written =
    let h = g.asked in
    never_written before.calls after.calls (map answered h.front ++ failed (h.name, false) ∷ []) h.made
    (none_of_both (map answered h.front) (failed (h.name, false) ∷ []) (reads_begun (reads before.files work) h.front ((h.name, false) ∷ h.rest) (reads_none before.files work) h.parts) refl) written
stopped_unwritten seen work before after stop.Memory g written =
    let h = g.asked in
    never_written before.calls after.calls (map answered h.front) h.made (reads_begun (reads before.files work) h.front h.rest (reads_none before.files work) h.parts) written

-- if the write of work failed, none of its writes succeeded
pub failed_unwritten : {B R : Type 0} (work : Work B) (before middle : FolderState) (files_after : Files) (after : List Call) (name bytes : List ℕ) (error : WriteError) → HasRead (reads before.files work) before middle
    → Writes middle.files files_after middle.calls after name bytes (Err error) → HasWritten before.calls after → R
failed_unwritten work before middle files_after after name bytes write.Failed h w written =
    let wanted : List Ask = reads before.files work in
    never_written before.calls after (map answered wanted ++ failed (write_of name) ∷ [])
    (w.1 ∙ ap (λ (calls : List Call). calls ++ failed (write_of name) ∷ []) h.asked ∙ append_assoc before.calls (map answered wanted) (failed (write_of name) ∷ []))
    (none_of_both (map answered wanted) (failed (write_of name) ∷ []) (reads_none before.files work) refl) written
failed_unwritten work before middle files_after after name bytes write.Memory h w written =
    never_written before.calls after (map answered (reads before.files work)) (w.1 ∙ h.asked) (reads_none before.files work) written

-- an ending with a file that is stored under its name
pub record WrittenEnding (end : Option Ending) (after : Files) : Type 0 where
  pub ending : Ending
  pub is : end ≡ Some ending
  pub name : List ℕ
  pub bytes : List ℕ
  pub file : ending.file ≡ Some (name, bytes)
  pub stands : after name ≡ Some bytes

module _ (wanted : List Ask) (none : list_any has_written (map answered wanted) ≡ false) (end : Option Ending) (before after : FolderState) (written : HasWritten before.calls after.calls) where
  by_file : (ending : Ending) (file : Option (List ℕ × List ℕ)) → ending.file ≡ file → end ≡ Some ending → AsksAll (wanted ++ file_asks file) before.calls after.calls → Written file before.files after.files → WrittenEnding end after.files
  by_file ending None at is asked files =
      never_written before.calls after.calls (map answered (wanted ++ [])) asked (ap (λ asks. list_any has_written (map answered asks)) (append-nil wanted) ∙ none) written
  by_file ending (Some file) at is asked files = record { ending = ending; is = is; name = file.0; bytes = file.1; file = at; stands = files.1 }

  by_work : (ending : Ending) → end ≡ Some ending → HasWorked wanted ending before after → WrittenEnding end after.files
  by_work ending is worked = by_file ending ending.file refl is worked.asked worked.files

  pub written_ending : (sink sink_after : SinkState) (how : Status) → LeavesBy wanted end before after sink sink_after how → WrittenEnding end after.files
  written_ending sink sink_after status.ReadFault l =
      let h = l.1.asked in
      never_written before.calls after.calls (map answered h.front ++ failed (h.name, false) ∷ []) h.made
      (none_of_both (map answered h.front) (failed (h.name, false) ∷ []) (reads_begun wanted h.front ((h.name, false) ∷ h.rest) none h.parts) refl) written
  written_ending sink sink_after status.WriteFault (inl l) =
      let h = l.1.spoilt in
      never_written before.calls after.calls (map answered wanted ++ failed (write_of h.name) ∷ []) h.asked
      (none_of_both (map answered wanted) (failed (write_of h.name) ∷ []) none refl) written
  written_ending sink sink_after status.WriteFault (inr l) = by_work l.1.ending l.1.is l.1.worked
  written_ending sink sink_after status.Memory (inl l) =
      let h = l.0.asked in
      never_written before.calls after.calls (map answered h.front) h.made (reads_begun wanted h.front h.rest none h.parts) written
  written_ending sink sink_after status.Memory (inr l) = by_work l.ending l.is l.worked
  written_ending sink sink_after status.Done l = by_work l.ending l.is l.worked
  written_ending sink sink_after status.Refused l = by_work l.ending l.is l.worked
  written_ending sink sink_after status.Words l = by_work l.ending l.is l.worked
  written_ending sink sink_after status.ExpectFailed l = by_work l.ending l.is l.worked

-- the value from which work reached an ending with a file
pub record CameFrom {A : Type 0} (files : Files) (part : Work A) (more : A → Work Ending) (ending : Ending) : Type 0 where
  pub value : A
  pub is : comes_to files part ≡ Some (Ok value)
  pub ends : ends files (more value) ≡ Some ending

pub came_from : {A : Type 0} (files : Files) (part : Work A) (more : A → Work Ending) (ending : Ending) (file : List ℕ × List ℕ)
    → ends files (and_then part more) ≡ Some ending → ending.file ≡ Some file → CameFrom files part more ending
came_from {A} files part more ending file is at = by_end (comes_to files part) refl (sym (ap (option_map conclusion) (comes_and_then files more part)) ∙ is)
  where
    by_end : (end : Option (Result A Reason)) → comes_to files part ≡ end → option_map conclusion (comes_behind files more end) ≡ Some ending → CameFrom files part more ending
    by_end None come behind = absurd (cc)
    by_end (Some (Err why)) come behind =
        let e : refused_ending why ≡ ending = cc in
        let no : None ≡ Some file = ap (λ (x : Ending). x.file) e ∙ at in
        absurd (cc)
    by_end (Some (Ok value)) come behind = record { value = value; is = come; ends = behind }

-- if the ending of a command has the file of a source's program, and the file is stored under its name, it means the source
source_means : (before after : Files) (source file : List ℕ) (pictured : Pictured) (ending : Ending) (name bytes : List ℕ) → comes_to before (program_work source) ≡ Some (Ok pictured)
    → ending.file ≡ Some (file, (file_from pictured).bytes) → ending.file ≡ Some (name, bytes) → after name ≡ Some bytes → SourceMeans before after source file
source_means before after source file pictured ending name bytes is of at stands =
    let e : Some (name, bytes) ≡ Some (file, (file_from pictured).bytes) = sym at ∙ of in
    let pair : (name, bytes) ≡ (file, (file_from pictured).bytes) = same_Some (name, bytes) (file, (file_from pictured).bytes) e in
    let found : after file ≡ Some (file_from pictured).bytes =
    ap after (sym (ap (λ (p : List ℕ × List ℕ). p.0) pair)) ∙ stands ∙ ap (λ (p : List ℕ × List ℕ). Some p.1) pair in
    record { pictured = pictured; is = is; means = rw found (program_means before source pictured is) }

pub compile_means : {F S : Type 0} (source file : List ℕ) (folders : FolderView F) (folder after : F) (sinks : SinkView S) (out out_after : S) (how : Status)
    → Does (compile_work source file) folders folder after sinks out out_after how → IsTrue (folders.told folder) → HasWritten (folders.calls folder) (folders.calls after)
    → SourceMeans (folders.files folder) (folders.files after) source file
compile_means source file folders folder after sinks out out_after how does told written =
    let files : Files = folders.files folder in
    let work : Work Ending = compile_work source file in
    let w : WrittenEnding (ends files work) (folders.files after) =
    written_ending (reads files work) (reads_none files work) (ends files work) (seen_folder folders folder) (seen_folder folders after) written (seen_sink sinks out) (seen_sink sinks out_after) how (does.leaves told) in
    let c = came_from files (program_work source) (λ pictured. Give (compile_ending file (file_from pictured))) w.ending (w.name, w.bytes) w.is w.file in
    let e : compile_ending file (file_from c.value) ≡ w.ending = same_Some (compile_ending file (file_from c.value)) w.ending c.ends in
    source_means files (folders.files after) source file c.value w.ending w.name w.bytes c.is (sym (ap (λ (x : Ending). x.file) e)) w.file w.stands

pub test_means : {F S : Type 0} (source file keys : List ℕ) (folders : FolderView F) (folder after : F) (sinks : SinkView S) (out out_after : S) (how : Status)
    → Does (test_work source file keys) folders folder after sinks out out_after how → IsTrue (folders.told folder) → HasWritten (folders.calls folder) (folders.calls after)
    → SourceMeans (folders.files folder) (folders.files after) source file
test_means source file keys folders folder after sinks out out_after how does told written =
    let files : Files = folders.files folder in
    let work : Work Ending = test_work source file keys in
    let w : WrittenEnding (ends files work) (folders.files after) =
    written_ending (reads files work) (reads_none files work) (ends files work) (seen_folder folders folder) (seen_folder folders after) written (seen_sink sinks out) (seen_sink sinks out_after) how (does.leaves told) in
    let c = came_from files (program_work source) (λ pictured. and_then (script_work (src pictured.program).dictionary keys) (λ entries. Give (test_ending file (file_from pictured).bytes (src pictured.program) entries))) w.ending (w.name, w.bytes) w.is w.file in
    let d = came_from files (script_work (src c.value.program).dictionary keys) (λ entries. Give (test_ending file (file_from c.value).bytes (src c.value.program) entries)) w.ending (w.name, w.bytes) c.ends w.file in
    let e : test_ending file (file_from c.value).bytes (src c.value.program) d.value ≡ w.ending = same_Some (test_ending file (file_from c.value).bytes (src c.value.program) d.value) w.ending d.ends in
    source_means files (folders.files after) source file c.value w.ending w.name w.bytes c.is (sym (ap (λ (x : Ending). x.file) e)) w.file w.stands

worked_all : (wanted : List Ask) (end : Option Ending) (before after : FolderState) (ending : Ending) → end ≡ Some ending → HasWorked wanted ending before after → AsksAll (wanted ++ writes end) before.calls after.calls
worked_all wanted end before after ending is worked = worked.asked ∙ ap (λ (e : Option Ending). before.calls ++ map answered (wanted ++ writes e)) (sym is)

spoilt_until : (wanted : List Ask) (end : Option Ending) (before after : FolderState) (ending : Ending) → end ≡ Some ending → HasFailedToWrite wanted ending before after → AsksUntil true (wanted ++ writes end) before.calls after.calls
spoilt_until wanted end before after ending is spoilt =
    record {
      front = wanted;
      name = spoilt.name;
      rest = [];
      parts = ap (λ (e : Option Ending). wanted ++ writes e) is ∙ ap (λ (f : Option (List ℕ × List ℕ)). wanted ++ file_asks f) spoilt.file;
      made = spoilt.asked;
    }

some_ending : (end : Option Ending) (ending : Ending) (how : Status) → end ≡ Some ending → how ≡ ending.status → IsSomeAnd end (λ e. how ≡ e.status)
some_ending end ending how is same = subst (λ (o : Option Ending). IsSomeAnd o (λ e. how ≡ e.status)) (sym is) same

-- if a run has the effects of its status, it made the calls of this status
pub asks_by : (wanted : List Ask) (end : Option Ending) (before after : FolderState) (sink sink_after : SinkState) (how : Status) → LeavesBy wanted end before after sink sink_after how
    → AsksBy (Rose sink.faults sink_after.faults) (wanted ++ writes end) before.calls after.calls how
asks_by wanted end before after sink sink_after status.ReadFault l = until_front wanted (writes end) before.calls before.calls after.calls false l.1.asked
asks_by wanted end before after sink sink_after status.WriteFault (inl l) = inl (spoilt_until wanted end before after l.1.ending l.1.is l.1.spoilt)
asks_by wanted end before after sink sink_after status.WriteFault (inr l) = inr (l.0, worked_all wanted end before after l.1.ending l.1.is l.1.worked)
asks_by wanted end before after sink sink_after status.Memory (inl l) = first_front wanted (writes end) before.calls before.calls after.calls l.0.asked
asks_by wanted end before after sink sink_after status.Memory (inr l) = first_all (wanted ++ writes end) before.calls after.calls (worked_all wanted end before after l.ending l.is l.worked)
asks_by wanted end before after sink sink_after status.Done l = worked_all wanted end before after l.ending l.is l.worked
asks_by wanted end before after sink sink_after status.Refused l = worked_all wanted end before after l.ending l.is l.worked
asks_by wanted end before after sink sink_after status.Words l = worked_all wanted end before after l.ending l.is l.worked
asks_by wanted end before after sink sink_after status.ExpectFailed l = worked_all wanted end before after l.ending l.is l.worked

-- if no fault count rose, a run ends with the status of its ending, or because an allocation failed
pub ends_as_wanted : (wanted : List Ask) (end : Option Ending) (before after : FolderState) (sink sink_after : SinkState) (how : Status) → LeavesBy wanted end before after sink sink_after how
    → ¬ Rose before.faults after.faults → ¬ Rose sink.faults sink_after.faults → (how ≡ status.Memory) ⊎ IsSomeAnd end (λ ending. how ≡ ending.status)
ends_as_wanted wanted end before after sink sink_after status.ReadFault l no_folder no_sink = absurd (no_folder l.0)
ends_as_wanted wanted end before after sink sink_after status.WriteFault (inl l) no_folder no_sink = absurd (no_folder l.0)
ends_as_wanted wanted end before after sink sink_after status.WriteFault (inr l) no_folder no_sink = absurd (no_sink l.0)
ends_as_wanted wanted end before after sink sink_after status.Memory l no_folder no_sink = inl refl
ends_as_wanted wanted end before after sink sink_after status.Done l no_folder no_sink = inr (some_ending end l.ending status.Done l.is l.how_is)
ends_as_wanted wanted end before after sink sink_after status.Refused l no_folder no_sink = inr (some_ending end l.ending status.Refused l.is l.how_is)
ends_as_wanted wanted end before after sink sink_after status.Words l no_folder no_sink = inr (some_ending end l.ending status.Words l.is l.how_is)
ends_as_wanted wanted end before after sink sink_after status.ExpectFailed l no_folder no_sink = inr (some_ending end l.ending status.ExpectFailed l.is l.how_is)
