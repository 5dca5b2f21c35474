-- Runs on an untrusted compiled keyboard.
use Rattle.std.proofs.Common.{◌≡◌, inl, List, ℕ, Option, Some, None, Result, Ok, Err, refl, sym, subst, ◌∙◌, append-nil}
use Rattle.rule_model.specs.Keyboard.{Keyboard}
use Rattle.rule_model.specs.Tab.{tab}
use Rattle.rule_model.specs.Trace.{trace}
use Rattle.rule_model.specs.Transcript.{events_of, transcript}
use Rattle.rule_model.specs.declared.script.Entry.{Entry}
use Rattle.rule_model.specs.declared.tables.Tables.{Tables}
use Rattle.kmx_format.specs.TablesOf.{tables_of}
use Rattle.kmx_format.specs.Writable.{IsFile}
use Rattle.kmx_verifier.specs.declared.faults.Fault.{Fault}
use Rattle.kmx_verifier.specs.declared.faults.VerifyError.{VerifyError}
use Rattle.kmx_verifier.specs.declared.faults.VerifyError.TheVariants as verify
use Rattle.kmx_verifier.specs.FaultOf.{fault_of, IsRefusal}
use Rattle.kmx_verifier.proofs.FileValid.{file_valid}
use Rattle.keyman_run.specs.declared.preparing.Stop.{Stop}
use Rattle.keyman_words.specs.declared.reason.Reason.{Reason}
use Rattle.keyman_words.specs.declared.reason.Reason.TheVariants as reason
use Rattle.keyman_words.specs.declared.status.Status.{Status}
use Rattle.keyman_words.specs.declared.status.Status.TheVariants as status
use Rattle.keyman_run.specs.Endings.{Ending, play_ending, play_status, refused_ending, verify_ending}
use Rattle.keyman_words.specs.Lines.{valid_line}
use Rattle.keyman_run.specs.Inputs.{tables_of_file, unless_faulty}
use Rattle.keyman_run.specs.Orders.{bytes_play_work, tables_play_work}
use Rattle.keyman_words.specs.Reasons.{fault_line}
use Rattle.keyman_run.specs.Run.{Does}
use Rattle.keyman_words.specs.Seen.{FolderView, SinkView}
use Rattle.keyman_words.specs.Tells.{Tells}
use Rattle.keyman_run.specs.Steps.{PrintsFileCounts, PrintsStop, verify_stop}
use Rattle.keyman_run.specs.Work.{Work, given, and_then, reads}
use Rattle.keyman_run.specs.Work.Work.{Give, Refuse}
use Rattle.keyman_run.proofs.AskedLaws.{first_none}
use Rattle.play_transcript.proofs.PrintingLaws.{none_begun}
use Rattle.keyman_run.proofs.RunLaws.{does_told}

-- if a run prints the line of a file's tables or of its fault, it does the work of verifying the file
does_tables : {F S : Type 0} (read : Result Tables Reason) (folders : FolderView F) (folder : F) (sinks : SinkView S) (out out_after : S) (how : Status)
    → PrintsFileCounts read sinks out out_after how → Does (and_then (given read) (λ tables. Give (verify_ending tables))) folders folder folder sinks out out_after how
does_tables (Ok tables) folders folder sinks out out_after how tells =
    does_told (Give (verify_ending tables)) (verify_ending tables) folders folder folder sinks out out_after how refl refl
    (λ told. (refl, record { asked = sym (append-nil (folders.calls folder)); files = λ name. refl })) tells
does_tables (Err why) folders folder sinks out out_after how tells =
    does_told (Refuse why) (refused_ending why) folders folder folder sinks out out_after how refl refl
    (λ told. (refl, record { asked = sym (append-nil (folders.calls folder)); files = λ name. refl })) tells

pub does_file : {F S : Type 0} (slice bytes : List ℕ) (folders : FolderView F) (folder : F) (sinks : SinkView S) (out out_after : S) (how : Status) → slice ≡ bytes
    → PrintsFileCounts (tables_of_file slice) sinks out out_after how → Does (and_then (given (tables_of_file bytes)) (λ tables. Give (verify_ending tables))) folders folder folder sinks out out_after how
does_file slice bytes folders folder sinks out out_after how same tells =
    subst (λ (b : List ℕ). Does (and_then (given (tables_of_file b)) (λ tables. Give (verify_ending tables))) folders folder folder sinks out out_after how) same
    (does_tables (tables_of_file slice) folders folder sinks out out_after how tells)

-- if an allocation fails and no output is printed, the run satisfies `PrintsFileCounts`
tells_nothing : {S : Type 0} (read : Result Tables Reason) (sinks : SinkView S) (out : S) → PrintsFileCounts read sinks out out status.Memory
tells_nothing (Ok tables) sinks out = record { counts = refl; told = refl; prints = λ told. none_begun (sinks.written out) _ }
tells_nothing (Err why) sinks out = record { counts = refl; told = refl; prints = λ told. none_begun (sinks.written out) _ }

-- if a file is valid, a run that prints the line of its tables satisfies `PrintsFileCounts`; if it has a fault, a run that prints the
-- fault does
pub tells_valid : {S : Type 0} (bytes file : List ℕ) (sinks : SinkView S) (out out_after : S) (how : Status) → fault_of bytes ≡ None → file ≡ bytes
    → Tells status.Done (valid_line (tables_of file)) sinks out out_after how → PrintsFileCounts (tables_of_file bytes) sinks out out_after how
tells_valid bytes file sinks out out_after how none same tells =
    subst (λ (found : Option Fault). PrintsFileCounts (unless_faulty (tables_of bytes) found) sinks out out_after how) (sym none)
    (subst (λ (b : List ℕ). Tells status.Done (valid_line (tables_of b)) sinks out out_after how) same tells)

tells_faulty : {S : Type 0} (bytes : List ℕ) (fault : Fault) (sinks : SinkView S) (out out_after : S) (how : Status) → fault_of bytes ≡ Some fault
    → Tells status.Refused (fault_line fault) sinks out out_after how → PrintsFileCounts (tables_of_file bytes) sinks out out_after how
tells_faulty bytes fault sinks out out_after how is tells =
    subst (λ (found : Option Fault). PrintsFileCounts (unless_faulty (tables_of bytes) found) sinks out out_after how) (sym is) tells

-- if two stops are equal, a run that satisfies `PrintsStop` for one satisfies it for the other
pub as_stop : {S : Type 0} (s other : Stop) (sinks : SinkView S) (out out_after : S) (how : Status) → s ≡ other → PrintsStop s sinks out out_after how → PrintsStop other sinks out out_after how
as_stop s other sinks out out_after how same tells = subst (λ (t : Stop). PrintsStop t sinks out out_after how) same tells

-- if the opening of bytes stops and the run satisfies `PrintsStop` for this stop, it satisfies `PrintsFileCounts`
pub tells_unread : {S : Type 0} (bytes : List ℕ) (error : VerifyError) (sinks : SinkView S) (out out_after : S) (how : Status) → IsRefusal error (λ fault. fault_of bytes ≡ Some fault)
    → PrintsStop (verify_stop error) sinks out out_after how → PrintsFileCounts (tables_of_file bytes) sinks out out_after how
tells_unread bytes (verify.Refused fault) sinks out out_after how is tells = tells_faulty bytes fault sinks out out_after how is tells
tells_unread {S} bytes verify.Memory sinks out out_after how is tells =
    subst (λ (o : S). PrintsFileCounts (tables_of_file bytes) sinks out o how) (sym tells.1)
    (subst (λ (s : Status). PrintsFileCounts (tables_of_file bytes) sinks out out s) (sym tells.0) (tells_nothing (tables_of_file bytes) sinks out))

-- if bytes are a file of writable tables, they have no fault
pub never_refused : (bytes : List ℕ) (fault : Fault) → IsFile bytes → fault_of bytes ≡ Some fault → ⊥
never_refused bytes fault file is =
    let valid : fault_of bytes ≡ None = file_valid bytes file in
    let both : None ≡ Some fault = sym valid ∙ is in
    absurd (cc)

-- so if the opening of such bytes stops, an allocation failed and no output is printed, which satisfies every `Tells`
pub tells_unopened : {S : Type 0} (bytes : List ℕ) (error : VerifyError) (good : Status) (printed : List ℕ) (sinks : SinkView S) (out out_after : S) (how : Status) → IsFile bytes
    → IsRefusal error (λ fault. fault_of bytes ≡ Some fault) → PrintsStop (verify_stop error) sinks out out_after how → Tells good printed sinks out out_after how
tells_unopened bytes (verify.Refused fault) good printed sinks out out_after how file is tells = absurd (never_refused bytes fault file is)
tells_unopened {S} bytes verify.Memory good printed sinks out out_after how file is tells =
    subst (λ (o : S). Tells good printed sinks out o how) (sym tells.1)
    (subst (λ (s : Status). Tells good printed sinks out out s) (sym tells.0)
    (record { counts = refl; told = refl; prints = λ told. none_begun (sinks.written out) printed }))

-- if an allocation fails before a run reads or prints, the run satisfies `Does` for any work
pub does_no_memory : {F S : Type 0} (work : Work Ending) (folders : FolderView F) (folder : F) (sinks : SinkView S) (out : S) → Does work folders folder folder sinks out out status.Memory
does_no_memory work folders folder sinks out = record {
  form = λ is. cc;
  counts = (refl, refl);
  told = (refl, refl);
  leaves = λ told. inl (record { asked = first_none (reads (folders.files folder) work) (folders.calls folder) (folders.calls folder) refl; files = λ name. refl }, λ told_sink. refl);
}

-- the work on bytes, from the work on the tables of their file
abbrev on_bytes : (Tables → Work Ending) → List ℕ → Work Ending
on_bytes on bytes = and_then (given (tables_of_file bytes)) on

-- if bytes are a valid file, a run that does the work on its tables does the work on the bytes; if they have a fault, a run that
-- prints the fault does
pub does_valid : {F S : Type 0} (on : Tables → Work Ending) (bytes file : List ℕ) (folders : FolderView F) (folder after : F) (sinks : SinkView S) (out out_after : S) (how : Status) → fault_of bytes ≡ None → file ≡ bytes
    → Does (on (tables_of file)) folders folder after sinks out out_after how → Does (on_bytes on bytes) folders folder after sinks out out_after how
does_valid on bytes file folders folder after sinks out out_after how none same does =
    subst (λ (found : Option Fault). Does (and_then (given (unless_faulty (tables_of bytes) found)) on) folders folder after sinks out out_after how) (sym none)
    (subst (λ (b : List ℕ). Does (on (tables_of b)) folders folder after sinks out out_after how) same does)

does_faulty : {F S : Type 0} (on : Tables → Work Ending) (bytes : List ℕ) (fault : Fault) (folders : FolderView F) (folder : F) (sinks : SinkView S) (out out_after : S) (how : Status) → fault_of bytes ≡ Some fault
    → Tells status.Refused (fault_line fault) sinks out out_after how → Does (on_bytes on bytes) folders folder folder sinks out out_after how
does_faulty on bytes fault folders folder sinks out out_after how is tells =
    subst (λ (found : Option Fault). Does (and_then (given (unless_faulty (tables_of bytes) found)) on) folders folder folder sinks out out_after how) (sym is)
    (does_told (Refuse (reason.File fault)) (refused_ending (reason.File fault)) folders folder folder sinks out out_after how refl refl
    (λ told. (refl, record { asked = sym (append-nil (folders.calls folder)); files = λ name. refl })) tells)

-- if the opening of bytes stops, a run that satisfies `PrintsStop` for this stop does the work on the bytes
pub does_unread : {F S : Type 0} (on : Tables → Work Ending) (bytes : List ℕ) (error : VerifyError) (folders : FolderView F) (folder : F) (sinks : SinkView S) (out out_after : S) (how : Status)
    → IsRefusal error (λ fault. fault_of bytes ≡ Some fault) → PrintsStop (verify_stop error) sinks out out_after how → Does (on_bytes on bytes) folders folder folder sinks out out_after how
does_unread on bytes (verify.Refused fault) folders folder sinks out out_after how is tells = does_faulty on bytes fault folders folder sinks out out_after how is tells
does_unread {F} {S} on bytes verify.Memory folders folder sinks out out_after how is tells =
    subst (λ (o : S). Does (on_bytes on bytes) folders folder folder sinks out o how) (sym tells.1)
    (subst (λ (s : Status). Does (on_bytes on bytes) folders folder folder sinks out out s) (sym tells.0) (does_no_memory (on_bytes on bytes) folders folder sinks out))

-- if bytes are a valid file, a run that plays on its tables plays on the bytes; if their opening stops, a run that satisfies
-- `PrintsStop` for this stop does
pub plays_valid : {F S : Type 0} (bytes file keys : List ℕ) (folders : FolderView F) (folder after : F) (sinks : SinkView S) (out out_after : S) (how : Status) → fault_of bytes ≡ None → file ≡ bytes
    → Does (tables_play_work (tables_of file) keys) folders folder after sinks out out_after how → Does (bytes_play_work bytes keys) folders folder after sinks out out_after how
plays_valid bytes file keys folders folder after sinks out out_after how none same does =
    does_valid (λ tables. tables_play_work tables keys) bytes file folders folder after sinks out out_after how none same does

pub plays_unread : {F S : Type 0} (bytes keys : List ℕ) (error : VerifyError) (folders : FolderView F) (folder : F) (sinks : SinkView S) (out out_after : S) (how : Status)
    → IsRefusal error (λ fault. fault_of bytes ≡ Some fault) → PrintsStop (verify_stop error) sinks out out_after how → Does (bytes_play_work bytes keys) folders folder folder sinks out out_after how
plays_unread bytes keys error folders folder sinks out out_after how is tells =
    does_unread (λ tables. tables_play_work tables keys) bytes error folders folder sinks out out_after how is tells

-- if a run prints the transcript of entries, it does the work of playing them
pub plays_entries : {F S : Type 0} (kb : Keyboard) (slice entries : List Entry) (folders : FolderView F) (folder : F) (sinks : SinkView S) (out out_after : S) (how : Status) → slice ≡ entries
    → Tells (play_status (trace kb (events_of slice)) slice) (transcript kb slice) sinks out out_after how → Does (Give (play_ending kb entries)) folders folder folder sinks out out_after how
plays_entries kb slice entries folders folder sinks out out_after how same tells =
    subst (λ (es : List Entry). Does (Give (play_ending kb es)) folders folder folder sinks out out_after how) same
    (does_told (Give (play_ending kb slice)) (play_ending kb slice) folders folder folder sinks out out_after how refl refl
    (λ told. (refl, record { asked = sym (append-nil (folders.calls folder)); files = λ name. refl })) tells)

-- if a file has the keyboard of tables, a run that prints what the file does with a script prints what the tables do
pub plays_written : {S : Type 0} (bytes file : List ℕ) (tables : Tables) (slice entries : List Entry) (sinks : SinkView S) (out out_after : S) (how : Status)
    → tab (tables_of bytes) ≡ tab tables → file ≡ bytes → slice ≡ entries
    → Tells (play_status (trace (tab (tables_of file)) (events_of slice)) slice) (transcript (tab (tables_of file)) slice) sinks out out_after how
    → Tells (play_status (trace (tab tables) (events_of entries)) entries) (transcript (tab tables) entries) sinks out out_after how
plays_written bytes file tables slice entries sinks out out_after how keyboard same same_entries tells =
    subst (λ (kb : Keyboard). Tells (play_status (trace kb (events_of entries)) entries) (transcript kb entries) sinks out out_after how) keyboard
    (subst (λ (b : List ℕ). Tells (play_status (trace (tab (tables_of b)) (events_of entries)) entries) (transcript (tab (tables_of b)) entries) sinks out out_after how) same
    (subst (λ (es : List Entry). Tells (play_status (trace (tab (tables_of file)) (events_of es)) es) (transcript (tab (tables_of file)) es) sinks out out_after how) same_entries tells))
