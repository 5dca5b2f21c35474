-- The results of the steps of a run.
use Rattle.std.specs.Prelude.{◌≡◌, IsTrue, ℕ, List, Option, Some, Result, Ok, Err}
use Rattle.kmn_base.specs.declared.refusals.CompileError.{CompileError}
use Rattle.kmn_base.specs.declared.refusals.CompileError.TheVariants as compile
use Rattle.kmn_base.specs.declared.codes.Code.{Code}
use Rattle.kmn_outside.specs.Outside.{Rose}
use Rattle.kmn_outside.specs.declared.traits.ReadError.{ReadError}
use Rattle.kmn_outside.specs.declared.traits.ReadError.TheVariants as read
use Rattle.rule_model.specs.Tab.{tab}
use Rattle.rule_model.specs.declared.tables.Tables.{Tables}
use Rattle.kmx_format.specs.TablesOf.{tables_of}
use Rattle.kmx_format.specs.Writable.{IsFile, IsWritable}
use Rattle.kmx_verifier.specs.declared.faults.VerifyError.{VerifyError}
use Rattle.kmx_verifier.specs.declared.faults.VerifyError.TheVariants as verify
use Rattle.load_maker.specs.declared.load.LoadError.{LoadError}
use Rattle.load_maker.specs.declared.load.LoadError.TheVariants as load
use Rattle.play_script.specs.declared.errors.ScriptError.{ScriptError}
use Rattle.play_script.specs.declared.errors.ScriptError.TheVariants as script
use Rattle.kmx_decompiler.specs.declared.refusals.DecompileError.{DecompileError}
use Rattle.kmx_decompiler.specs.declared.refusals.DecompileError.TheVariants as decompile
use Rattle.touch_layout.specs.declared.faults.LayoutError.{LayoutError}
use Rattle.touch_layout.specs.declared.faults.LayoutError.TheVariants as layout
use Rattle.kmn_compiler.specs.declared.compiling.Compiled.{Compiled}
use Rattle.keyman_run.specs.declared.preparing.Prepared.{Prepared}
use Rattle.keyman_run.specs.declared.preparing.Stop.{Stop}
use Rattle.keyman_run.specs.declared.preparing.Stop.TheVariants as stop
use Rattle.keyman_words.specs.declared.reason.Reason.{Reason}
use Rattle.keyman_words.specs.declared.reason.Reason.TheVariants as reason
use Rattle.keyman_words.specs.declared.status.Status.{Status}
use Rattle.keyman_words.specs.declared.status.Status.TheVariants as status
use Rattle.shadow_text.specs.DeadLines.{dead_text}
use Rattle.keyman_run.specs.Asked.{Ask}
use Rattle.keyman_run.specs.Endings.{Job}
use Rattle.keyman_words.specs.Lines.{valid_line}
use Rattle.keyman_words.specs.Reasons.{reason_line}
use Rattle.keyman_run.specs.Run.{HasRead, HasBegunToRead, HasFailedToRead}
use Rattle.keyman_words.specs.Seen.{FolderView, SinkView, FolderState, seen_folder}
use Rattle.keyman_words.specs.Tells.{Tells}
use Rattle.keyman_run.specs.Work.{Work, reads, comes_to}

-- why a run stops if a source was not compiled
abbrev pub compile_stop : CompileError → Stop
compile_stop (compile.Refused refusal) = stop.Refused (reason.Line refusal)
compile_stop (compile.TooLarge code size) = stop.Refused (reason.Size code size)
compile_stop compile.Memory = stop.Memory

-- why a run stops if a script breaks a rule
abbrev pub script_stop : ScriptError → Stop
script_stop (script.Refused refusal) = stop.Refused (reason.Line refusal)
script_stop script.Memory = stop.Memory

-- why a run stops if a layout breaks a rule
abbrev pub layout_stop : LayoutError → Stop
layout_stop (layout.Refused fault) = stop.Refused (reason.Layout fault)
layout_stop layout.Memory = stop.Memory

-- why a run stops if bytes are not a valid file
abbrev pub verify_stop : VerifyError → Stop
verify_stop (verify.Refused fault) = stop.Refused (reason.File fault)
verify_stop verify.Memory = stop.Memory

-- why a run stops if a number has no load
abbrev pub load_stop : LoadError → Stop
load_stop load.Range = stop.Refused reason.Number
load_stop load.Memory = stop.Memory

-- why a run stops if a file has no source that it decompiles to
abbrev pub text_stop : DecompileError → Stop
text_stop (decompile.Refused why) = stop.Refused (reason.Text why)
text_stop decompile.Memory = stop.Memory

-- a refusal at line 1
abbrev pub at_line_one : Code → Reason
at_line_one code = reason.Line (record { line = 1; code = code })

-- why a run stops if an input wasn't read: an input over its limit is refused for the given reason
abbrev pub read_stop : Reason → ReadError → Stop
read_stop long read.Failed = stop.ReadFault
read_stop long (read.Over size) = stop.Refused long
read_stop long read.Memory = stop.Memory

-- the folder's fault count rises if a read failed, and is unchanged if not
abbrev pub StopCounts : {A : Type 0} → ℕ → ℕ → Result A Stop → Type 0
StopCounts before after (Err stop.ReadFault) = Rose before after
StopCounts before after _ = after ≡ before

-- the effects of work that only reads, by its result; `seen` converts the value of the result to the value of the work
abbrev pub GivesBy : {A B : Type 0} → (A → B) → List Ask → Option (Result B Reason) → FolderState → FolderState → Result A Stop → Type 0
GivesBy seen wanted end before after (Ok value) = (end ≡ Some (Ok (seen value))) × HasRead wanted before after
GivesBy seen wanted end before after (Err (stop.Refused why)) = (end ≡ Some (Err why)) × HasRead wanted before after
GivesBy seen wanted end before after (Err stop.ReadFault) = HasFailedToRead wanted before after
GivesBy seen wanted end before after (Err stop.Memory) = HasBegunToRead wanted before after

-- the result of a step that reads no file: the specified value, to which `seen` converts it, or the specified reason
abbrev pub States : {A B : Type 0} → (A → B) → Result B Reason → Result A Stop → Type 0
States seen stated (Ok value) = stated ≡ Ok (seen value)
States seen stated (Err (stop.Refused why)) = stated ≡ Err why
States seen stated (Err stop.ReadFault) = ⊥
States seen stated (Err stop.Memory) = Unit {0}

-- a run of work that only reads, from one state of a folder to another, with this result
pub record Gives {F A B : Type 0} (seen : A → B) (work : Work B) (folders : FolderView F) (folder folder_after : F) (result : Result A Stop) : Type 0 where
  pub counts : StopCounts (folders.faults folder) (folders.faults folder_after) result
  pub told : folders.told folder_after ≡ folders.told folder
  pub gives : IsTrue (folders.told folder) → GivesBy seen (reads (folders.files folder) work) (comes_to (folders.files folder) work) (seen_folder folders folder) (seen_folder folders folder_after) result

-- the tables can be written, and the bytes are a file with the same keyboard
pub record IsCompiled (compiled : Compiled) : Type 0 where
  pub writable : IsWritable compiled.tables
  pub file : IsFile compiled.bytes
  pub keyboard : tab (tables_of compiled.bytes) ≡ tab compiled.tables

-- the conversion `seen` for a step that returns the value of its work itself
abbrev pub itself : {A : Type 0} → A → A
itself value = value

-- a prepared keyboard and script, as a job
abbrev pub prepared_job : Prepared → Job
prepared_job prepared = record { compiled = prepared.compiled; entries = prepared.entries }

-- a run that stops before it writes prints the line of a refusal, or no output
abbrev pub PrintsStop : {S : Type 0} → Stop → SinkView S → S → S → Status → Type 0
PrintsStop (stop.Refused why) sinks out out_after s = Tells status.Refused (reason_line why) sinks out out_after s
PrintsStop stop.ReadFault sinks out out_after s = (s ≡ status.ReadFault) × (out_after ≡ out)
PrintsStop stop.Memory sinks out out_after s = (s ≡ status.Memory) × (out_after ≡ out)

-- what a run prints for a file: the line of its tables or of its fault
abbrev pub PrintsFileCounts : {S : Type 0} → Result Tables Reason → SinkView S → S → S → Status → Type 0
PrintsFileCounts (Ok tables) sinks out out_after s = Tells status.Done (valid_line tables) sinks out out_after s
PrintsFileCounts (Err why) sinks out out_after s = Tells status.Refused (reason_line why) sinks out out_after s

-- what a run prints for a load: its line, or the line of a reason
abbrev pub PrintsLoad : {S : Type 0} → Result (List ℕ) Reason → SinkView S → S → S → Status → Type 0
PrintsLoad (Ok line) sinks out out_after s = Tells status.Done line sinks out out_after s
PrintsLoad (Err why) sinks out out_after s = Tells status.Refused (reason_line why) sinks out out_after s

-- what a run prints for a search for dead rules: what it found, or the line of a reason
abbrev pub PrintsDeadRules : {S : Type 0} → Result Tables Reason → SinkView S → S → S → Status → Type 0
PrintsDeadRules (Ok tables) sinks out out_after s = Tells status.Done (dead_text tables) sinks out out_after s
PrintsDeadRules (Err why) sinks out out_after s = Tells status.Refused (reason_line why) sinks out out_after s
