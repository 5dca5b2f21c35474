-- The results of reading and exporting a file.
use Rattle.std.specs.Prelude.{◌≡◌, ◌⊎◌, ℕ, true, false, IsTrue, List, [], ◌∷◌, ◌++◌, Some, Result, Ok, Err}
use Rattle.kmn_outside.specs.Outside.{Files, Rose, SameFiles, call_of}
use Rattle.kmx_verifier.specs.FaultOf.{IsValid, fault_of}
use Rattle.kmx_verifier.specs.declared.faults.VerifyError.{VerifyError}
use Rattle.kmx_verifier.specs.declared.faults.VerifyError.TheVariants as verify
use Rattle.core_export.specs.Told.{told_of}
use Rattle.core_constructs.specs.declared.construct.Told.{Told}
use Rattle.core_export.specs.Export.{Exports, IsExportError}
use Rattle.core_export.specs.declared.errors.ExportError.{ExportError}
use Rattle.core_export.specs.declared.errors.ExportError.TheVariants as error
use Rattle.keyman_words.specs.Seen.{FolderView, FolderState, seen_folder}
use Rattle.export_run.specs.declared.reading.ExportReason.{ExportReason}
use Rattle.export_run.specs.declared.reading.ExportReason.TheVariants.{File, SavesTwice, Nameless, Unreadable, Overfull, NoZeroUnit, Overlapping}
use Rattle.export_run.specs.declared.reading.Export.{Export}
use Rattle.export_run.specs.declared.reading.ExportStop.{ExportStop}
use Rattle.export_run.specs.declared.reading.ExportStop.TheVariants as stop

-- the exported file of these bytes, with all that the other engine treats differently in it
abbrev pub IsExportOf : List ℕ → Export → Type 0
IsExportOf bytes out = Exports bytes (Ok out.bytes) × (out.differences ≡ told_of out.bytes)

-- why a valid file isn't exported
abbrev pub IsReasonOfValid : List ℕ → ExportReason → Type 0
IsReasonOfValid bytes (File fault) = ⊥
IsReasonOfValid bytes (SavesTwice line) = IsExportError bytes (error.SavesTwice line)
IsReasonOfValid bytes Nameless = IsExportError bytes error.Nameless
IsReasonOfValid bytes (Unreadable line) = IsExportError bytes (error.Unreadable line)
IsReasonOfValid bytes Overfull = IsExportError bytes error.Overfull
IsReasonOfValid bytes NoZeroUnit = IsExportError bytes error.NoZeroUnit
IsReasonOfValid bytes Overlapping = IsExportError bytes error.Overlapping

-- why bytes have no export: they have a fault (V15 at 0 if they are over the limit), or are a valid file that isn't exported
abbrev pub IsReason : List ℕ → ExportReason → Type 0
IsReason bytes (File fault) = fault_of bytes ≡ Some fault
IsReason bytes (SavesTwice line) = IsValid bytes × IsReasonOfValid bytes (SavesTwice line)
IsReason bytes Nameless = IsValid bytes × IsReasonOfValid bytes Nameless
IsReason bytes (Unreadable line) = IsValid bytes × IsReasonOfValid bytes (Unreadable line)
IsReason bytes Overfull = IsValid bytes × IsReasonOfValid bytes Overfull
IsReason bytes NoZeroUnit = IsValid bytes × IsReasonOfValid bytes NoZeroUnit
IsReason bytes Overlapping = IsValid bytes × IsReasonOfValid bytes Overlapping

-- why a run stops if bytes are not a valid file
abbrev pub verify_stop : VerifyError → ExportStop
verify_stop (verify.Refused fault) = stop.Refused (File fault)
verify_stop verify.Memory = stop.Memory

-- why a run stops if a valid file isn't exported
abbrev pub export_stop : ExportError → ExportStop
export_stop (error.SavesTwice line) = stop.Refused (SavesTwice line)
export_stop error.Nameless = stop.Refused Nameless
export_stop (error.Unreadable line) = stop.Refused (Unreadable line)
export_stop error.Overfull = stop.Refused Overfull
export_stop error.NoZeroUnit = stop.Refused NoZeroUnit
export_stop error.Overlapping = stop.Refused Overlapping
export_stop error.Memory = stop.Memory

-- all that the other engine treats differently in bytes, or why a run stops: they are not a valid file
abbrev pub Differs : List ℕ → Result Told ExportStop → Type 0
Differs bytes (Ok told) = told ≡ told_of bytes
Differs bytes (Err (stop.Refused (File fault))) = fault_of bytes ≡ Some fault
Differs bytes (Err stop.Memory) = Unit {0}
Differs bytes (Err _) = ⊥

-- the export of a valid file, or why there is none
abbrev pub Answers : List ℕ → Result Export ExportStop → Type 0
Answers bytes (Ok out) = IsExportOf bytes out
Answers bytes (Err (stop.Refused why)) = IsReasonOfValid bytes why
Answers bytes (Err stop.ReadFault) = ⊥
Answers bytes (Err stop.Memory) = Unit {0}

-- the export of bytes, or why there is none
abbrev pub States : List ℕ → Result Export ExportStop → Type 0
States bytes (Ok out) = IsValid bytes × IsExportOf bytes out
States bytes (Err (stop.Refused why)) = IsReason bytes why
States bytes (Err stop.ReadFault) = ⊥
States bytes (Err stop.Memory) = Unit {0}

-- the file of a name has this export
pub record HasExport (files : Files) (file : List ℕ) (out : Export) : Type 0 where
  pub bytes : List ℕ
  pub is : files file ≡ Some bytes
  pub valid : IsValid bytes
  pub export : IsExportOf bytes out

-- the file of a name has no export, for this reason
pub record HasReason (files : Files) (file : List ℕ) (why : ExportReason) : Type 0 where
  pub bytes : List ℕ
  pub is : files file ≡ Some bytes
  pub reason : IsReason bytes why

-- the file of a name was read, and no file differs
pub record HasRead (file : List ℕ) (before after : FolderState) : Type 0 where
  pub calls : after.calls ≡ before.calls ++ call_of file false false ∷ []
  pub files : SameFiles before.files after.files

-- reading the file of a name failed, and no file differs
pub record HasFailedToRead (file : List ℕ) (before after : FolderState) : Type 0 where
  pub calls : after.calls ≡ before.calls ++ call_of file false true ∷ []
  pub files : SameFiles before.files after.files

-- an allocation failed before or after the file was read, and no file differs
pub record HasMaybeRead (file : List ℕ) (before after : FolderState) : Type 0 where
  pub calls : (after.calls ≡ before.calls) ⊎ (after.calls ≡ before.calls ++ call_of file false false ∷ [])
  pub files : SameFiles before.files after.files

-- the effects of a read and an export, by their result
abbrev pub GivesBy : List ℕ → FolderState → FolderState → Result Export ExportStop → Type 0
GivesBy file before after (Ok out) = HasExport before.files file out × HasRead file before after
GivesBy file before after (Err (stop.Refused why)) = HasReason before.files file why × HasRead file before after
GivesBy file before after (Err stop.ReadFault) = HasFailedToRead file before after
GivesBy file before after (Err stop.Memory) = HasMaybeRead file before after

-- the folder's fault count rises if the read failed, and is unchanged if not
abbrev pub StopCounts : ℕ → ℕ → Result Export ExportStop → Type 0
StopCounts before after (Err stop.ReadFault) = Rose before after
StopCounts before after _ = after ≡ before

-- a read and an export, from one state of a folder to another, with this result
pub record Gives {F : Type 0} (file : List ℕ) (folders : FolderView F) (folder folder_after : F) (result : Result Export ExportStop) : Type 0 where
  pub counts : StopCounts (folders.faults folder) (folders.faults folder_after) result
  pub told : folders.told folder_after ≡ folders.told folder
  pub gives : IsTrue (folders.told folder) → GivesBy file (seen_folder folders folder) (seen_folder folders folder_after) result
