-- The run that searches a source for lines that never fire, and the lines that it prints.
use Rattle.std.proofs.Common.{◌≡◌, ℕ, List, Option, Some, None, Result, Ok, Err, refl, sym, append-nil}
use Rattle.std.specs.List.{All}
use Rattle.kmn_outside.specs.Outside.{Files}
use Rattle.rule_model.specs.declared.tables.Tables.{Tables}
use Rattle.compile_laws.specs.Ordered.{compiled_tables}
use Rattle.compile_laws.proofs.Ordered.{program_compiles}
use Rattle.kmn_compiler.specs.declared.compiling.Compiled.{Compiled}
use Rattle.kmn_compiler.proofs.Accepted.{IsAccepted}
use Rattle.kmn_compiler.proofs.Checks.{checked_accepted}
use Rattle.shadow_text.specs.DeadLines.{IsDeadLine, dead_lines}
use Rattle.shadow_text.proofs.DeadRules.{dead_lines_dead}
use Rattle.play_transcript.proofs.Fields.{fields_are_traces}
use Rattle.play_transcript.proofs.Pieces.{steps_are_told}
use Rattle.keyman_words.specs.declared.reason.Reason.{Reason}
use Rattle.keyman_words.specs.Command.{Request}
use Rattle.keyman_words.specs.Command.Request.{Compile, Decompile, Host, Layout, Load, Play, Shadow, Test, Trace, Verify}
use Rattle.keyman_words.specs.declared.status.Status.{Status}
use Rattle.keyman_run.specs.Endings.{Ending, refused_ending, shadow_ending}
use Rattle.keyman_run.specs.Inputs.{Pictured, few_records}
use Rattle.keyman_run.specs.Orders.{compiled_work, program_work, shadow_work}
use Rattle.keyman_run.specs.Run.{Does, FieldsAreIndependent, LinesAreDead}
use Rattle.keyman_words.specs.Seen.{FolderView, SinkView}
use Rattle.keyman_run.specs.Steps.{PrintsDeadRules}
use Rattle.keyman_run.specs.Work.{Work, given, and_then, comes_to}
use Rattle.keyman_run.specs.Work.Work.{Give, Refuse}
use Rattle.keyman_run.proofs.MeaningLaws.{IsCompilable, all_compilable, file_behind}
use Rattle.keyman_run.proofs.RunLaws.{does_told}
use Rattle.keyman_run.proofs.WorkLaws.{comes_to_all}

-- the work that follows a compiled source
abbrev search_tables : Tables → Work Ending
search_tables tables = Give (shadow_ending tables)

abbrev pub search_behind : Compiled → Work Ending
search_behind compiled = and_then (given (few_records compiled.tables)) search_tables

pub shadow_in_steps : (source : List ℕ) → and_then (compiled_work source) search_behind ≡ shadow_work source
shadow_in_steps source = file_behind source search_behind

-- if a run prints the result of a search, it does the work of the search
does_found : {F S : Type 0} (few : Result Tables Reason) (folders : FolderView F) (folder : F) (sinks : SinkView S) (out out_after : S) (how : Status)
    → PrintsDeadRules few sinks out out_after how → Does (and_then (given few) search_tables) folders folder folder sinks out out_after how
does_found (Ok tables) folders folder sinks out out_after how tells =
    does_told (Give (shadow_ending tables)) (shadow_ending tables) folders folder folder sinks out out_after how refl refl
    (λ told. (refl, record { asked = sym (append-nil (folders.calls folder)); files = λ name. refl })) tells
does_found (Err why) folders folder sinks out out_after how tells =
    does_told (Refuse why) (refused_ending why) folders folder folder sinks out out_after how refl refl
    (λ told. (refl, record { asked = sym (append-nil (folders.calls folder)); files = λ name. refl })) tells

pub does_searched : {F S : Type 0} (compiled : Compiled) (folders : FolderView F) (folder : F) (sinks : SinkView S) (out out_after : S) (how : Status)
    → PrintsDeadRules (few_records compiled.tables) sinks out out_after how → Does (search_behind compiled) folders folder folder sinks out out_after how
does_searched compiled folders folder sinks out out_after how tells = does_found (few_records compiled.tables) folders folder sinks out out_after how tells

-- the lines that are printed for a source never fire in its program
source_dead : (files : Files) (source : List ℕ) (pictured : Pictured) → comes_to files (program_work source) ≡ Some (Ok pictured) → All (IsDeadLine pictured.program) (dead_lines (compiled_tables pictured.program))
source_dead files source pictured is =
    let h : IsCompilable pictured = comes_to_all IsCompilable files (program_work source) pictured (all_compilable source) is in
    let accepted : IsAccepted pictured.program = checked_accepted h.source pictured.program h.is in
    dead_lines_dead pictured.program (compiled_tables pictured.program) accepted.named (program_compiles pictured.program) accepted.writable

pub lines_are_dead : (files : Files) (request : Option Request) → LinesAreDead files request
lines_are_dead files None = tt
lines_are_dead files (Some (Compile source file)) = tt
lines_are_dead files (Some (Test source file keys)) = tt
lines_are_dead files (Some (Verify file)) = tt
lines_are_dead files (Some (Decompile file source)) = tt
lines_are_dead files (Some (Play file keys)) = tt
lines_are_dead files (Some (Layout source layout)) = tt
lines_are_dead files (Some (Load number)) = tt
lines_are_dead files (Some (Trace source keys)) = tt
lines_are_dead files (Some (Shadow source)) = λ pictured is. source_dead files source pictured is
lines_are_dead files (Some (Host file keys)) = tt

-- whatever a host plays, the steps of each field are the steps of its events only
pub fields_are_alone : (files : Files) (request : Option Request) → FieldsAreIndependent files request
fields_are_alone files None = tt
fields_are_alone files (Some (Compile source file)) = tt
fields_are_alone files (Some (Test source file keys)) = tt
fields_are_alone files (Some (Verify file)) = tt
fields_are_alone files (Some (Decompile file source)) = tt
fields_are_alone files (Some (Play file keys)) = tt
fields_are_alone files (Some (Layout source layout)) = tt
fields_are_alone files (Some (Load number)) = tt
fields_are_alone files (Some (Trace source keys)) = tt
fields_are_alone files (Some (Shadow source)) = tt
fields_are_alone files (Some (Host file keys)) = λ tables entries valid read. (fields_are_traces tables entries, steps_are_told tables entries)
