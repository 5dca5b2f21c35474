-- Runs that play a script in the fields of a host.
use Rattle.std.proofs.Common.{◌≡◌, ℕ, List, None, Some, refl, sym, subst, append-nil}
use Rattle.rule_model.specs.declared.tables.Tables.{Tables}
use Rattle.kmx_format.specs.TablesOf.{tables_of}
use Rattle.kmx_verifier.specs.FaultOf.{fault_of, IsRefusal}
use Rattle.kmx_verifier.specs.declared.faults.VerifyError.{VerifyError}
use Rattle.text_host.specs.declared.entries.HostEntry.{HostEntry}
use Rattle.play_transcript.specs.HostText.{host_end, host_text}
use Rattle.keyman_words.specs.declared.status.Status.{Status}
use Rattle.keyman_run.specs.Endings.{end_status, host_ending}
use Rattle.keyman_run.specs.Orders.{bytes_host_work, tables_host_work}
use Rattle.keyman_run.specs.Run.{Does}
use Rattle.keyman_words.specs.Seen.{FolderView, SinkView}
use Rattle.keyman_words.specs.Tells.{Tells}
use Rattle.keyman_run.specs.Steps.{PrintsStop, verify_stop}
use Rattle.keyman_run.specs.Work.Work.{Give}
use Rattle.keyman_run.proofs.FileRuns.{does_unread, does_valid}
use Rattle.keyman_run.proofs.RunLaws.{does_told}

-- if bytes are a valid file, a run that plays on its tables plays on the bytes; if their opening stops, a run that satisfies
-- `PrintsStop` for this stop does
pub hosts_valid : {F S : Type 0} (bytes file keys : List ℕ) (folders : FolderView F) (folder after : F) (sinks : SinkView S) (out out_after : S) (how : Status) → fault_of bytes ≡ None → file ≡ bytes
    → Does (tables_host_work (tables_of file) keys) folders folder after sinks out out_after how → Does (bytes_host_work bytes keys) folders folder after sinks out out_after how
hosts_valid bytes file keys folders folder after sinks out out_after how none same does =
    does_valid (λ tables. tables_host_work tables keys) bytes file folders folder after sinks out out_after how none same does

pub hosts_unread : {F S : Type 0} (bytes keys : List ℕ) (error : VerifyError) (folders : FolderView F) (folder : F) (sinks : SinkView S) (out out_after : S) (how : Status)
    → IsRefusal error (λ fault. fault_of bytes ≡ Some fault) → PrintsStop (verify_stop error) sinks out out_after how → Does (bytes_host_work bytes keys) folders folder folder sinks out out_after how
hosts_unread bytes keys error folders folder sinks out out_after how is tells =
    does_unread (λ tables. tables_host_work tables keys) bytes error folders folder sinks out out_after how is tells

-- if a run prints the text of a host's entries, it does the work of playing them
pub hosts_entries : {F S : Type 0} (tables : Tables) (slice entries : List HostEntry) (folders : FolderView F) (folder : F) (sinks : SinkView S) (out out_after : S) (how : Status) → slice ≡ entries
    → Tells (end_status (host_end tables slice)) (host_text tables slice) sinks out out_after how → Does (Give (host_ending tables entries)) folders folder folder sinks out out_after how
hosts_entries tables slice entries folders folder sinks out out_after how same tells =
    subst (λ (es : List HostEntry). Does (Give (host_ending tables es)) folders folder folder sinks out out_after how) same
    (does_told (Give (host_ending tables slice)) (host_ending tables slice) folders folder folder sinks out out_after how refl refl
    (λ told. (refl, record { asked = sym (append-nil (folders.calls folder)); files = λ name. refl })) tells)
