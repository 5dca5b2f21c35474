-- The results of reading the inputs.
use Rattle.std.proofs.Common.{◌≡◌, ◌+◌, ℕ, IsTrue, List, [], ◌∷◌, ◌++◌, map, Option, Some, Result, Ok, Err, refl, sym, ap, ◌∙◌, subst}
use Rattle.std.specs.Result.{IsErrAnd, MatchResult}
use Rattle.kmn_base.specs.Answers.{Answers}
use Rattle.kmn_base.specs.declared.refusals.CompileError.{CompileError}
use Rattle.kmn_base.specs.declared.refusals.CompileError.TheVariants as compile
use Rattle.kmn_base.specs.declared.refusals.Refusal.{Refusal}
use Rattle.kmn_compiler.specs.declared.compiling.Compiled.{Compiled}
use Rattle.kmn_compiler.specs.Picture.{picture_name}
use Rattle.kmn_compiler.specs.Source.{CompilesTo}
use Rattle.kmn_outside.specs.Outside.{Files, ReadCounts, Reads}
use Rattle.kmn_outside.specs.declared.traits.ReadError.{ReadError}
use Rattle.kmn_outside.specs.declared.traits.ReadError.TheVariants as read
use Rattle.kmx_format.specs.File.{file_of}
use Rattle.rule_model.specs.declared.program.Program.{Program}
use Rattle.rule_model.specs.declared.tables.Tables.{Tables}
use Rattle.play_script.specs.Answers.{Answers as ScriptAnswers}
use Rattle.play_script.specs.declared.errors.ScriptError.{ScriptError}
use Rattle.play_script.specs.declared.errors.ScriptError.TheVariants as script
use Rattle.keyman_run.specs.declared.preparing.Stop.{Stop}
use Rattle.keyman_run.specs.declared.preparing.Stop.TheVariants as stop
use Rattle.keyman_words.specs.declared.reason.Reason.{Reason}
use Rattle.keyman_words.specs.declared.reason.Reason.TheVariants as reason
use Rattle.keyman_run.specs.Asked.{Ask, read_of, answered}
use Rattle.keyman_run.specs.Inputs.{by_line, file_from, pictured_within, unless_large}
use Rattle.keyman_run.specs.Orders.{file_work, picture_work}
use Rattle.keyman_run.specs.Run.{HasRead}
use Rattle.keyman_words.specs.Seen.{FolderView, FolderState, seen_folder}
use Rattle.keyman_run.specs.Steps.{StopCounts, GivesBy, Gives, States, read_stop, compile_stop, script_stop, itself}
use Rattle.keyman_run.specs.Work.{Reading, Work, given, and_then, reads, comes_to}
use Rattle.keyman_run.specs.Work.Reading.{Bytes, Over}
use Rattle.keyman_run.specs.Work.Work.{Give, Refuse, Read}
use Rattle.keyman_run.proofs.AskedLaws.{first_none, first_all}
use Rattle.keyman_run.proofs.RunLaws.{gives_value, gives_refused, gives_no_memory}
use Rattle.keyman_run.proofs.WorkLaws.{reading_within, reading_over, reads_found, comes_found, comes_given, and_then_assoc}

-- work that continues after a reading to the specified result and reads no more files
pub record Concludes {B : Type 0} (next : Reading → Work B) (stated : Reading → Result B Reason) : Type 0 where
  pub reads_none : (files : Files) (reading : Reading) → reads files (next reading) ≡ []
  pub comes : (files : Files) (reading : Reading) → comes_to files (next reading) ≡ Some (stated reading)

module _ {A B : Type 0} (seen : A → B) (wanted : List Ask) (before after : FolderState) where
  states_by : (end : Option (Result B Reason)) (stated : Result B Reason) (result : Result A Stop) → end ≡ Some stated → HasRead wanted before after → States seen stated result → GivesBy seen wanted end before after result
  states_by end stated (Ok value) is h states = (is ∙ ap Some states, h)
  states_by end stated (Err (stop.Refused why)) is h states = (is ∙ ap Some states, h)
  states_by end stated (Err stop.ReadFault) is h states = absurd states
  states_by end stated (Err stop.Memory) is h states = record { asked = first_all wanted before.calls after.calls h.asked; files = h.files }

states_counts : {A B : Type 0} (seen : A → B) (stated : Result B Reason) (before after : ℕ) (result : Result A Stop) → after ≡ before → States seen stated result → StopCounts before after result
states_counts seen stated before after (Ok value) same states = same
states_counts seen stated before after (Err (stop.Refused why)) same states = same
states_counts seen stated before after (Err stop.ReadFault) same states = absurd states
states_counts seen stated before after (Err stop.Memory) same states = same

-- if a file was read whole and a result is the specified one for its bytes, it is the result of the work
gives_answered : {F A B : Type 0} (seen : A → B) (name : List ℕ) (limit : ℕ) (next : Reading → Work B) (stated : Reading → Result B Reason) (folders : FolderView F) (folder after : F) (bytes : List ℕ) (result : Result A Stop)
    → Concludes next stated → folders.faults after ≡ folders.faults folder → folders.told after ≡ folders.told folder
    → (IsTrue (folders.told folder) → Reads (folders.files folder) (folders.files after) (folders.calls folder) (folders.calls after) name limit (Ok bytes))
    → States seen (stated (Bytes bytes)) result → Gives seen (Read name limit next) folders folder after result
gives_answered seen name limit next stated folders folder after bytes result concludes faults told answers states = record {
  counts = states_counts seen (stated (Bytes bytes)) (folders.faults folder) (folders.faults after) result faults states;
  told = told;
  gives = λ told_folder.
      let files : Files = folders.files folder in
      let h = answers told_folder in
      let at = reading_within limit bytes h.1.1 in
      let asked : reads files (Read name limit next) ≡ read_of name ∷ [] =
      reads_found files name limit next bytes h.1.0 (Bytes bytes) at ∙ ap (λ asks. read_of name ∷ asks) (concludes.reads_none files (Bytes bytes)) in
      let end : comes_to files (Read name limit next) ≡ Some (stated (Bytes bytes)) =
      comes_found files name limit next bytes h.1.0 (Bytes bytes) at ∙ concludes.comes files (Bytes bytes) in
      states_by seen (reads files (Read name limit next)) (seen_folder folders folder) (seen_folder folders after) (comes_to files (Read name limit next)) (stated (Bytes bytes)) result end
      (record { asked = h.1.2 ∙ ap (λ asks. folders.calls folder ++ map answered asks) (sym asked); files = h.0 }) states;
}

-- the result of a read as the result of a step: the bytes, or why the run stops
abbrev pub IsStopped : Reason → Result (List ℕ) ReadError → Result (List ℕ) Stop → Type 0
IsStopped long answer stopped = MatchResult answer (λ bytes. stopped ≡ Ok bytes) (λ error. IsErrAnd stopped (λ given. given ≡ read_stop long error))

-- if a file was not read whole, the work of reading it stops for the error of the read
gives_unread : {F A B : Type 0} (seen : A → B) (name : List ℕ) (limit : ℕ) (next : Reading → Work B) (stated : Reading → Result B Reason) (long : Reason) (folders : FolderView F) (folder after : F) (error : ReadError)
    → Concludes next stated → stated (Over (limit + 1)) ≡ Err long
    → ReadCounts (folders.faults folder) (folders.faults after) (Err error) → folders.told after ≡ folders.told folder
    → (IsTrue (folders.told folder) → Reads (folders.files folder) (folders.files after) (folders.calls folder) (folders.calls after) name limit (Err error))
    → Gives {A = A} seen (Read name limit next) folders folder after (Err (read_stop long error))
gives_unread seen name limit next stated long folders folder after read.Failed concludes over counts told answers = record {
  counts = counts;
  told = told;
  gives = λ told_folder. let h = answers told_folder in record { asked = record { front = []; name = name; rest = _; parts = refl; made = h.1 }; files = h.0 };
}
gives_unread seen name limit next stated long folders folder after (read.Over size) concludes over counts told answers = record {
  counts = counts;
  told = told;
  gives = λ told_folder.
      let files : Files = folders.files folder in
      let h = answers told_folder in
      let bytes : List ℕ = h.1.0.0 in
      let at = reading_over limit bytes h.1.0.2 in
      let asked : reads files (Read name limit next) ≡ read_of name ∷ [] =
      reads_found files name limit next bytes h.1.0.1 (Over (limit + 1)) at ∙ ap (λ asks. read_of name ∷ asks) (concludes.reads_none files (Over (limit + 1))) in (
        comes_found files name limit next bytes h.1.0.1 (Over (limit + 1)) at ∙ concludes.comes files (Over (limit + 1)) ∙ ap Some over,
        record { asked = h.1.2 ∙ ap (λ asks. folders.calls folder ++ map answered asks) (sym asked); files = h.0 },
      );
}
gives_unread seen name limit next stated long folders folder after read.Memory concludes over counts told answers = record {
  counts = counts;
  told = told;
  gives = λ told_folder. let h = answers told_folder in record { asked = first_none (reads (folders.files folder) (Read name limit next)) (folders.calls folder) (folders.calls after) h.1; files = h.0 };
}

-- the same two laws by the result of the read: the file was read whole, or it was not
pub gives_whole : {F A B : Type 0} (seen : A → B) (name : List ℕ) (limit : ℕ) (next : Reading → Work B) (stated : Reading → Result B Reason) (folders : FolderView F) (folder after : F) (answer : Result (List ℕ) ReadError) (bytes : List ℕ) (result : Result A Stop)
    → answer ≡ Ok bytes → Concludes next stated → ReadCounts (folders.faults folder) (folders.faults after) answer → folders.told after ≡ folders.told folder
    → (IsTrue (folders.told folder) → Reads (folders.files folder) (folders.files after) (folders.calls folder) (folders.calls after) name limit answer)
    → States seen (stated (Bytes bytes)) result → Gives seen (Read name limit next) folders folder after result
gives_whole seen name limit next stated folders folder after answer bytes result is concludes counts told answers states =
    gives_answered seen name limit next stated folders folder after bytes result concludes
    (subst (ReadCounts (folders.faults folder) (folders.faults after)) is counts) told
    (λ told_folder. subst (Reads (folders.files folder) (folders.files after) (folders.calls folder) (folders.calls after) name limit) is (answers told_folder)) states

pub gives_stop : {F A B : Type 0} (seen : A → B) (name : List ℕ) (limit : ℕ) (next : Reading → Work B) (stated : Reading → Result B Reason) (long : Reason) (folders : FolderView F) (folder after : F) (answer : Result (List ℕ) ReadError) (s : Stop) (result : Result A Stop)
    → IsStopped long answer (Err s) → IsErrAnd result (λ given. given ≡ s) → Concludes next stated → stated (Over (limit + 1)) ≡ Err long
    → ReadCounts (folders.faults folder) (folders.faults after) answer → folders.told after ≡ folders.told folder
    → (IsTrue (folders.told folder) → Reads (folders.files folder) (folders.files after) (folders.calls folder) (folders.calls after) name limit answer)
    → Gives seen (Read name limit next) folders folder after result
gives_stop seen name limit next stated long folders folder after (Ok bytes) s result is handed concludes over counts told answers = absurd (cc)
gives_stop seen name limit next stated long folders folder after (Err error) s (Ok value) is handed concludes over counts told answers = absurd handed
gives_stop {F} {A} {B} seen name limit next stated long folders folder after (Err error) s (Err given) is handed concludes over counts told answers =
    subst (λ (t : Stop). Gives {A = A} seen (Read name limit next) folders folder after (Err t)) (sym (handed ∙ is))
    (gives_unread seen name limit next stated long folders folder after error concludes over counts told answers)

-- if the value of the work of reading a file is its bytes, the result of the read is the result of the work
pub gives_bytes : {F : Type 0} (name : List ℕ) (limit : ℕ) (next : Reading → Work (List ℕ)) (stated : Reading → Result (List ℕ) Reason) (long : Reason) (folders : FolderView F) (folder after : F) (answer : Result (List ℕ) ReadError) (result : Result (List ℕ) Stop)
    → Concludes next stated → ((bytes : List ℕ) → stated (Bytes bytes) ≡ Ok bytes) → stated (Over (limit + 1)) ≡ Err long → IsStopped long answer result
    → ReadCounts (folders.faults folder) (folders.faults after) answer → folders.told after ≡ folders.told folder
    → (IsTrue (folders.told folder) → Reads (folders.files folder) (folders.files after) (folders.calls folder) (folders.calls after) name limit answer)
    → Gives itself (Read name limit next) folders folder after result
gives_bytes name limit next stated long folders folder after (Ok bytes) result concludes whole over is counts told answers =
    subst (λ (r : Result (List ℕ) Stop). Gives itself (Read name limit next) folders folder after r) (sym is)
    (gives_answered itself name limit next stated folders folder after bytes (Ok bytes) concludes counts told answers (whole bytes))
gives_bytes name limit next stated long folders folder after (Err error) (Ok bytes) concludes whole over is counts told answers = absurd is
gives_bytes name limit next stated long folders folder after (Err error) (Err given) concludes whole over is counts told answers =
    subst (λ (t : Stop). Gives {A = List ℕ} itself (Read name limit next) folders folder after (Err t)) (sym is)
    (gives_unread itself name limit next stated long folders folder after error concludes over counts told answers)

none_read : {B : Type 0} (files : Files) (read : Result B Reason) → reads files (given read) ≡ []
none_read files (Ok value) = refl
none_read files (Err why) = refl

-- work that has a specified result for a reading reads no more files
pub given_concludes : {B : Type 0} (stated : Reading → Result B Reason) → Concludes (λ reading. given (stated reading)) stated
given_concludes stated = record { reads_none = λ files reading. none_read files (stated reading); comes = λ files reading. comes_given files (stated reading) }

-- if an input is read line by line, its value or its refusal is the specified result
pub value_stated : {A : Type 0} (read : Result A Refusal) (value : A) → read ≡ Ok value → States itself (by_line read) (Ok value)
value_stated read value is = ap by_line is

pub error_stated : {A : Type 0} (read : Result A Refusal) (error : CompileError) → Answers read (Err error) → States {A = A} itself (by_line read) (Err (compile_stop error))
error_stated read (compile.Refused refusal) h = ap by_line h
error_stated read (compile.TooLarge code size) h = absurd h
error_stated read compile.Memory h = tt

-- if a script breaks a rule, its refusal is the specified result
pub broken_stated : {A : Type 0} (read : Result A Refusal) (error : ScriptError) → ScriptAnswers read (Err error) → States {A = A} itself (by_line read) (Err (script_stop error))
broken_stated read (script.Refused refusal) h = ap by_line h
broken_stated read script.Memory h = tt

-- the work that follows a program and its picture
abbrev pub compile_behind : Program → List ℕ → Work Compiled
compile_behind program picture = and_then (given (pictured_within program picture)) (λ pictured. Give (file_from pictured))

-- compiling a source's program reads the picture, and then compiles the program with it
pub file_in_steps : (source : List ℕ) (program : Program) → file_work source program ≡ and_then (picture_work source (picture_name program)) (compile_behind program)
file_in_steps source program = and_then_assoc (picture_work source (picture_name program)) (λ picture. given (pictured_within program picture)) (λ pictured. Give (file_from pictured))

-- if a program is compiled with a picture, its file or its refusal is the result of the work
pub compiled_gives : {F : Type 0} (program : Program) (picture : List ℕ) (folders : FolderView F) (folder : F) (compiled : Compiled) → CompilesTo (Ok program) picture (Ok compiled)
    → Gives itself (compile_behind program picture) folders folder folder (Ok compiled)
compiled_gives {F} program picture folders folder compiled h =
    let same : h.0 ≡ program = cc in
    let within : pictured_within h.0 picture ≡ Ok (record { program = h.0; picture = picture }) = ap (unless_large (record { program = h.0; picture = picture })) h.2.within in
    let file : compiled ≡ file_from (record { program = h.0; picture = picture }) =
    λ i. record { bytes = (h.2.bytes ∙ ap (λ (t : Tables). file_of t picture) h.2.tables) i; tables = h.2.tables i } in
    let work : compile_behind program picture ≡ Give compiled =
    ap (λ (p : Program). compile_behind p picture) (sym same) ∙ ap (λ read. and_then (given read) (λ pictured. Give (file_from pictured))) within ∙ ap Give (sym file) in
    subst (λ (w : Work Compiled). Gives itself w folders folder folder (Ok compiled)) (sym work) (gives_value itself folders folder compiled)

pub uncompiled_gives : {F : Type 0} (program : Program) (picture : List ℕ) (folders : FolderView F) (folder : F) (error : CompileError) → CompilesTo (Ok program) picture (Err error)
    → Gives {A = Compiled} itself (compile_behind program picture) folders folder folder (Err (compile_stop error))
uncompiled_gives program picture folders folder (compile.Refused refusal) h = absurd (cc)
uncompiled_gives {F} program picture folders folder (compile.TooLarge code size) h =
    let same : h.0 ≡ program = cc in
    let large : pictured_within h.0 picture ≡ Err (reason.Size code size) = ap (unless_large (record { program = h.0; picture = picture })) h.2 in
    let work : compile_behind program picture ≡ Refuse (reason.Size code size) =
    ap (λ (p : Program). compile_behind p picture) (sym same) ∙ ap (λ read. and_then (given read) (λ pictured. Give (file_from pictured))) large in
    subst (λ (w : Work Compiled). Gives {A = Compiled} itself w folders folder folder (Err (stop.Refused (reason.Size code size)))) (sym work) (gives_refused itself folders folder (reason.Size code size))
uncompiled_gives program picture folders folder compile.Memory h = gives_no_memory itself (compile_behind program picture) folders folder
