-- The effects of a run of work on a folder and a sink.
use Rattle.std.specs.Prelude.{◌≡◌, ◌≢◌, ◌⊎◌, ℕ, false, IsTrue, All, List, [], ◌∷◌, ◌++◌, map, Option, Some, None, IsSomeAnd, Result, Ok}
use Rattle.kmn_base.specs.declared.refusals.CompileError.{CompileError}
use Rattle.kmn_outside.specs.Outside.{Files, Rose, SameFiles, SameOthers}
use Rattle.rule_model.specs.Tab.{tab}
use Rattle.rule_model.specs.declared.tables.Tables.{Tables}
use Rattle.compile_laws.specs.Means.{Means}
use Rattle.compile_laws.specs.Ordered.{compiled_tables}
use Rattle.rule_checker.specs.Refused.{checked}
use Rattle.kmn_compiler.specs.Source.{CompilesTo}
use Rattle.kmn_compiler.specs.declared.compiling.Compiled.{Compiled}
use Rattle.kmx_decompiler.specs.RoundTrips.{TakesStepsOf}
use Rattle.shadow_text.specs.DeadLines.{IsDeadLine, dead_lines}
use Rattle.text_host.specs.declared.entries.HostEntry.{HostEntry}
use Rattle.play_transcript.specs.Fields.{FieldsAreTraces}
use Rattle.play_transcript.specs.HostPieces.{StepsAreTold}
use Rattle.keyman_words.specs.declared.status.Status.{Status}
use Rattle.keyman_words.specs.declared.status.Status.TheVariants as status
use Rattle.keyman_run.specs.Asked.{Ask, write_of, answered, failed, AsksAll, AsksFirst, AsksUntil, HasWritten}
use Rattle.keyman_words.specs.Command.{Request}
use Rattle.keyman_words.specs.Command.Request.{Compile, Decompile, Host, Layout, Load, Play, Shadow, Test, Trace, Verify}
use Rattle.keyman_run.specs.Endings.{Ending, ends, file_asks}
use Rattle.keyman_run.specs.Inputs.{Pictured}
use Rattle.keyman_run.specs.Orders.{host_script_work, program_work, tables_work}
use Rattle.play_transcript.specs.Printing.{IsBegun}
use Rattle.keyman_words.specs.Seen.{FolderView, SinkView, FolderState, SinkState, IsSilent, seen_folder, seen_sink}
use Rattle.keyman_run.specs.Work.{Work, reads, comes_to}

-- the file of an ending was written if it has one, and no file of another name differs
abbrev pub Written : Option (List ℕ × List ℕ) → Files → Files → Type 0
Written None before after = SameFiles before after
Written (Some file) before after = SameOthers file.0 before after × (after file.0 ≡ Some file.1)

-- all accesses were made, none failed, and no file differs
pub record HasRead (wanted : List Ask) (before after : FolderState) : Type 0 where
  pub asked : AsksAll wanted before.calls after.calls
  pub files : SameFiles before.files after.files

-- a first part of the accesses was made, none failed, and no file differs
pub record HasBegunToRead (wanted : List Ask) (before after : FolderState) : Type 0 where
  pub asked : AsksFirst wanted before.calls after.calls
  pub files : SameFiles before.files after.files

-- the last access that was made is a read that failed, and no file differs
pub record HasFailedToRead (wanted : List Ask) (before after : FolderState) : Type 0 where
  pub asked : AsksUntil false wanted before.calls after.calls
  pub files : SameFiles before.files after.files

-- all reads were made, and the file of the ending was written if it has one
pub record HasWorked (wanted : List Ask) (ending : Ending) (before after : FolderState) : Type 0 where
  pub asked : AsksAll (wanted ++ file_asks ending.file) before.calls after.calls
  pub files : Written ending.file before.files after.files

-- all reads were made, and the write of the file failed: at most the file of its name differs
pub record HasFailedToWrite (wanted : List Ask) (ending : Ending) (before after : FolderState) : Type 0 where
  pub name : List ℕ
  pub bytes : List ℕ
  pub file : ending.file ≡ Some (name, bytes)
  pub asked : after.calls ≡ before.calls ++ (map answered wanted ++ failed (write_of name) ∷ [])
  pub files : SameOthers name before.files after.files

-- the run finished with this status: its work is done, and all of its output was printed
pub record IsEnded (wanted : List Ask) (end : Option Ending) (before after : FolderState) (sink sink_after : SinkState) (how : Status) : Type 0 where
  pub ending : Ending
  pub is : end ≡ Some ending
  pub how_is : how ≡ ending.status
  pub worked : HasWorked wanted ending before after
  pub printed : IsTrue sink.told → sink_after.written ≡ sink.written ++ ending.printed

-- the write of the file failed, and no output was printed
pub record IsSpoilt (wanted : List Ask) (end : Option Ending) (before after : FolderState) (sink sink_after : SinkState) : Type 0 where
  pub ending : Ending
  pub is : end ≡ Some ending
  pub spoilt : HasFailedToWrite wanted ending before after
  pub silent : IsSilent sink sink_after

-- the work is done, and the printing broke off: a first part of the output was printed
pub record IsCutOff (wanted : List Ask) (end : Option Ending) (before after : FolderState) (sink sink_after : SinkState) : Type 0 where
  pub ending : Ending
  pub is : end ≡ Some ending
  pub worked : HasWorked wanted ending before after
  pub begun : IsTrue sink.told → IsBegun sink.written sink_after.written ending.printed

-- the effects of a run by its status, for work with these reads and this ending
abbrev pub LeavesBy : List Ask → Option Ending → FolderState → FolderState → SinkState → SinkState → Status → Type 0
LeavesBy wanted end before after sink sink_after status.ReadFault =
    Rose before.faults after.faults × HasFailedToRead wanted before after × IsSilent sink sink_after
LeavesBy wanted end before after sink sink_after status.WriteFault =
    (Rose before.faults after.faults × IsSpoilt wanted end before after sink sink_after)
    ⊎ (Rose sink.faults sink_after.faults × IsCutOff wanted end before after sink sink_after)
LeavesBy wanted end before after sink sink_after status.Memory =
    (HasBegunToRead wanted before after × IsSilent sink sink_after) ⊎ IsCutOff wanted end before after sink sink_after
LeavesBy wanted end before after sink sink_after other = IsEnded wanted end before after sink sink_after other

-- the effects of a run of work on a folder and a sink, by its status
abbrev pub Leaves : Work Ending → FolderState → FolderState → SinkState → SinkState → Status → Type 0
Leaves work before after sink sink_after how = LeavesBy (reads before.files work) (ends before.files work) before after sink sink_after how

-- the fault counts that a run raises, by its status: only the two fault statuses raise one
abbrev pub FaultCounts : ℕ → ℕ → ℕ → ℕ → Status → Type 0
FaultCounts folder folder_after sink sink_after status.ReadFault = Rose folder folder_after × (sink_after ≡ sink)
FaultCounts folder folder_after sink sink_after status.WriteFault =
    (Rose folder folder_after × (sink_after ≡ sink)) ⊎ ((folder_after ≡ folder) × Rose sink sink_after)
FaultCounts folder folder_after sink sink_after _ = (folder_after ≡ folder) × (sink_after ≡ sink)

-- a run of work from one state of a folder and a sink to another, with this status: the contract of every command
pub record Does {F S : Type 0} (work : Work Ending) (folders : FolderView F) (folder folder_after : F) (sinks : SinkView S) (out out_after : S) (how : Status) : Type 0 where
  pub form : how ≢ status.Words
  pub counts : FaultCounts (folders.faults folder) (folders.faults folder_after) (sinks.faults out) (sinks.faults out_after) how
  pub told : (folders.told folder_after ≡ folders.told folder) × (sinks.told out_after ≡ sinks.told out)
  pub leaves : IsTrue (folders.told folder) → Leaves work (seen_folder folders folder) (seen_folder folders folder_after) (seen_sink sinks out) (seen_sink sinks out_after) how

-- the source has a program, and the file means it
pub record SourceMeans (before after : Files) (source file : List ℕ) : Type 0 where
  pub pictured : Pictured
  pub is : comes_to before (program_work source) ≡ Some (Ok pictured)
  pub means : IsSomeAnd (after file) (λ bytes. Means bytes pictured.program)

-- the text that was written as the source compiles without a picture, unless an allocation fails, to a file that takes the same
-- steps as the given file, whatever the events are
pub record TextMeans (before after : Files) (file source : List ℕ) : Type 0 where
  pub bytes : List ℕ
  pub is : before file ≡ Some bytes
  pub means : IsSomeAnd (after source) (λ text. (result : Result Compiled CompileError) → CompilesTo (checked text) [] result → TakesStepsOf bytes result)

-- a file that a request wrote means the source that it was compiled from; a source that it wrote means the file that it was
-- decompiled from; the other requests write no file
abbrev pub FileMeans : FolderState → FolderState → Option Request → Type 0
FileMeans before after None = Unit {0}
FileMeans before after (Some (Compile source file)) = HasWritten before.calls after.calls → SourceMeans before.files after.files source file
FileMeans before after (Some (Test source file keys)) = HasWritten before.calls after.calls → SourceMeans before.files after.files source file
FileMeans before after (Some (Verify file)) = Unit {0}
FileMeans before after (Some (Decompile file source)) = HasWritten before.calls after.calls → TextMeans before.files after.files file source
FileMeans before after (Some (Play file keys)) = Unit {0}
FileMeans before after (Some (Layout source layout)) = Unit {0}
FileMeans before after (Some (Load number)) = Unit {0}
FileMeans before after (Some (Trace source keys)) = Unit {0}
FileMeans before after (Some (Shadow source)) = Unit {0}
FileMeans before after (Some (Host file keys)) = Unit {0}

-- if the source of a search for dead rules has a program, no rule of a printed line ever fires in it
abbrev pub LinesAreDead : Files → Option Request → Type 0
LinesAreDead files (Some (Shadow source)) = (pictured : Pictured) → comes_to files (program_work source) ≡ Some (Ok pictured)
    → All (IsDeadLine pictured.program) (dead_lines (compiled_tables pictured.program))
LinesAreDead files _ = Unit {0}

-- if the file of a host is valid and the script is read for it, the steps of each field are the steps of its events only, and
-- these steps are printed for it
abbrev pub FieldsAreIndependent : Files → Option Request → Type 0
FieldsAreIndependent files (Some (Host file keys)) = (tables : Tables) → (entries : List HostEntry) → comes_to files (tables_work file) ≡ Some (Ok tables)
    → comes_to files (host_script_work (tab tables).dictionary keys) ≡ Some (Ok entries)
    → FieldsAreTraces tables entries × StepsAreTold tables entries
FieldsAreIndependent files _ = Unit {0}
