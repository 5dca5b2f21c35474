-- The effects of a run on a folder and a sink: the contract of `export_run`.
use Rattle.std.specs.Prelude.{◌≡◌, ◌⊎◌, ℕ, true, false, IsTrue, List, [], ◌∷◌, ◌++◌, Some}
use Rattle.kmn_outside.specs.Outside.{Rose, SameOthers, call_of}
use Rattle.play_transcript.specs.Printing.{IsBegun}
use Rattle.export_run.specs.declared.reading.ExportReason.{ExportReason}
use Rattle.export_run.specs.declared.reading.Export.{Export}
use Rattle.keyman_words.specs.declared.status.Status.{Status}
use Rattle.keyman_words.specs.declared.status.Status.TheVariants as status
use Rattle.export_run.specs.Lines.{unexported_line, exported_text}
use Rattle.keyman_words.specs.Seen.{FolderView, FolderState, SinkView, SinkState, IsSilent, seen_folder, seen_sink}
use Rattle.export_run.specs.Reads.{HasExport, HasReason, HasRead, HasFailedToRead, HasMaybeRead}

-- the file was read and its export was written under the target's name, and no file of another name differs
pub record HasExported (file target : List ℕ) (out : Export) (before after : FolderState) : Type 0 where
  pub export : HasExport before.files file out
  pub calls : after.calls ≡ before.calls ++ call_of file false false ∷ call_of target true false ∷ []
  pub others : SameOthers target before.files after.files
  pub written : after.files target ≡ Some out.bytes

-- the file was read and the write of its export failed, and no file of a name other than the target's differs
pub record HasFailedToWrite (file target : List ℕ) (out : Export) (before after : FolderState) : Type 0 where
  pub export : HasExport before.files file out
  pub calls : after.calls ≡ before.calls ++ call_of file false false ∷ call_of target true true ∷ []
  pub others : SameOthers target before.files after.files

-- the file was read and isn't exported, and no file differs
pub record IsRefused (file : List ℕ) (why : ExportReason) (before after : FolderState) : Type 0 where
  pub reason : HasReason before.files file why
  pub read : HasRead file before after

-- the work is done, and the printing broke off: a first part of the text was printed
abbrev pub IsCutOff : (file target : List ℕ) → FolderState → FolderState → SinkState → SinkState → Type 0
IsCutOff file target before after sink sink_after =
    ((out : Export) × HasExported file target out before after × (IsTrue sink.told → IsBegun sink.written sink_after.written (exported_text out)))
    ⊎ ((why : ExportReason) × IsRefused file why before after × (IsTrue sink.told → IsBegun sink.written sink_after.written (unexported_line why)))

-- the effects of a run, by its status. If a write fails, the fault count that rose shows whether the folder or the sink failed
abbrev pub LeavesBy : (file target : List ℕ) → FolderState → FolderState → SinkState → SinkState → Status → Type 0
LeavesBy file target before after sink sink_after status.Done =
    (out : Export) × HasExported file target out before after × (IsTrue sink.told → sink_after.written ≡ sink.written ++ exported_text out)
LeavesBy file target before after sink sink_after status.Refused =
    (why : ExportReason) × IsRefused file why before after × (IsTrue sink.told → sink_after.written ≡ sink.written ++ unexported_line why)
LeavesBy file target before after sink sink_after status.Words = ⊥
LeavesBy file target before after sink sink_after status.ExpectFailed = ⊥
LeavesBy file target before after sink sink_after status.ReadFault = HasFailedToRead file before after × IsSilent sink sink_after
LeavesBy file target before after sink sink_after status.WriteFault =
    (Rose before.faults after.faults × ((out : Export) × HasFailedToWrite file target out before after × IsSilent sink sink_after))
    ⊎ (Rose sink.faults sink_after.faults × IsCutOff file target before after sink sink_after)
LeavesBy file target before after sink sink_after status.Memory =
    (HasMaybeRead file before after × IsSilent sink sink_after) ⊎ IsCutOff file target before after sink sink_after

-- the fault counts that a run raises, by its status: only the two fault statuses raise one
abbrev pub FaultCounts : ℕ → ℕ → ℕ → ℕ → Status → Type 0
FaultCounts folder folder_after sink sink_after status.Words = ⊥
FaultCounts folder folder_after sink sink_after status.ReadFault = Rose folder folder_after × (sink_after ≡ sink)
FaultCounts folder folder_after sink sink_after status.WriteFault =
    (Rose folder folder_after × (sink_after ≡ sink)) ⊎ ((folder_after ≡ folder) × Rose sink sink_after)
FaultCounts folder folder_after sink sink_after _ = (folder_after ≡ folder) × (sink_after ≡ sink)

-- a run that exports a file to a target, from one state of a folder and a sink to another, with this status
pub record Exports {F S : Type 0} (file target : List ℕ) (folders : FolderView F) (folder folder_after : F) (sinks : SinkView S) (out out_after : S) (how : Status) : Type 0 where
  pub counts : FaultCounts (folders.faults folder) (folders.faults folder_after) (sinks.faults out) (sinks.faults out_after) how
  pub told : (folders.told folder_after ≡ folders.told folder) × (sinks.told out_after ≡ sinks.told out)
  pub leaves : IsTrue (folders.told folder)
      → LeavesBy file target (seen_folder folders folder) (seen_folder folders folder_after) (seen_sink sinks out) (seen_sink sinks out_after) how

-- a run of arguments: two arguments are the names of the file and the target, and other arguments do no work
abbrev pub Runs : {F S : Type 0} → List (List ℕ) → FolderView F → F → F → SinkView S → S → S → Status → Type 0
Runs (file ∷ target ∷ []) folders folder folder_after sinks out out_after how = Exports file target folders folder folder_after sinks out out_after how
Runs _ folders folder folder_after sinks out out_after how = (how ≡ status.Words) × (folder_after ≡ folder) × (out_after ≡ out)
