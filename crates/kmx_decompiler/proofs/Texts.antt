-- The text of a file compiles to a file that takes its steps, and a file that a source compiles to has a text unless it is too large.
use Rattle.std.proofs.Common.{◌≡◌, ℕ, ◌≤◌, false, List, [], length, Some, None, Result, Ok, Err, refl, sym, ap, ◌∙◌, subst, nat_lt, arith}
use Rattle.std.proofs.lemmas.Bool.Decides.{nat_tests}
use Rattle.kmn_base.specs.declared.limits.TheConstants.{FILE_BYTES}
use Rattle.kmn_base.specs.declared.events.Event.{Event}
use Rattle.kmn_base.specs.declared.refusals.Refusal.{Refusal}
use Rattle.kmn_base.specs.declared.refusals.CompileError.{CompileError}
use Rattle.kmn_base.specs.declared.refusals.CompileError.TheVariants as error
use Rattle.rule_model.specs.declared.program.Program.{Program}
use Rattle.rule_model.specs.declared.tables.Tables.{Tables}
use Rattle.rule_model.specs.Tab.{tab}
use Rattle.rule_model.specs.Trace.{trace}
use Rattle.rule_checker.specs.Refused.{checked}
use Rattle.kmx_format.specs.File.{file_of}
use Rattle.kmx_format.specs.TablesOf.{tables_of}
use Rattle.kmx_format.specs.Writable.{IsFile}
use Rattle.kmx_writer.specs.Excess.{excess as file_excess}
use Rattle.compile_laws.specs.Compiles.{Compiles}
use Rattle.compile_laws.specs.Ordered.{compiled_tables}
use Rattle.compile_laws.proofs.Ordered.{program_compiles}
use Rattle.kmn_parser.specs.Programs.{program_text}
use Rattle.decompile_program.specs.Back.{back}
use Rattle.kmx_decompiler.specs.Excess.{excess as text_excess}
use Rattle.kmx_decompiler.specs.Unspelled.{unspelled}
use Rattle.kmx_decompiler.proofs.Accepted.{text_is_accepted, text_keeps_meaning}
use Rattle.kmx_decompiler.proofs.CompiledSources.{compiled_lacks_no_text}
use Rattle.kmx_decompiler.proofs.Fitting.{text_fits}
use Rattle.kmn_compiler.specs.Source.{CompilesTo}
use Rattle.kmn_compiler.specs.declared.compiling.Compiled.{Compiled}
use Rattle.kmx_decompiler.specs.RoundTrips.{CompiledFilesHaveTexts, TakesStepsOf, TextsCompile}

-- a file within the limits, without a picture, exceeds none of them
passes_no_limit : (tables : Tables) → IsFile (file_of tables []) → file_excess tables [] ≡ None
passes_no_limit tables file =
    let size = file.file_size in
    let small : nat_lt FILE_BYTES (length (file_of tables [])) ≡ false = grind (arith, nat_tests) in
    rw small refl

-- if a source is accepted as a program whose tables fit in a file and take the steps of bytes, it compiles to such a file
module _ (bytes : List ℕ) (program : Program)
    (fits : (tables : Tables) → Compiles program tables → IsFile (file_of tables []))
    (keeps : (tables : Tables) → Compiles program tables → (events : List Event) → trace (tab tables) events ≡ trace (tab (tables_of bytes)) events) where
  compiles_to_steps : (read : Result Program Refusal) (result : Result Compiled CompileError) → read ≡ Ok program → CompilesTo read [] result → TakesStepsOf bytes result
  compiles_to_steps read (Ok compiled) is answer =
      let found : read ≡ Ok answer.0 = answer.1 in
      let same : answer.0 ≡ program = cc in
      let compiles : Compiles program compiled.tables = subst (λ (p : Program). Compiles p compiled.tables) same answer.2.compiles in
      λ events. ap (λ keyboard. trace keyboard events) answer.2.keyboard ∙ keeps compiled.tables compiles events
  compiles_to_steps read (Err (error.Refused refusal)) is answer = absurd (cc)
  compiles_to_steps read (Err (error.TooLarge code size)) is answer =
      let found : read ≡ Ok answer.0 = answer.1 in
      let same : answer.0 ≡ program = cc in
      let within = passes_no_limit (compiled_tables program) (fits (compiled_tables program) (program_compiles program)) in
      let over = subst (λ (p : Program). file_excess (compiled_tables p) [] ≡ Some (code, size)) same answer.2 in
      absurd (cc)
  compiles_to_steps read (Err error.Memory) is answer = tt

pub texts_compile : TextsCompile
texts_compile bytes has result answer =
    let program : Program = back (tables_of bytes) in
    compiles_to_steps bytes program (text_fits bytes has) (text_keeps_meaning bytes has) (checked (program_text program)) result (text_is_accepted bytes has) answer

pub compiled_files_have_texts : CompiledFilesHaveTexts
compiled_files_have_texts source picture (Ok compiled) answer =
    let from = answer.2 in
    let small : length (file_of compiled.tables picture) ≤ FILE_BYTES = subst (λ (file : List ℕ). length file ≤ FILE_BYTES) from.bytes from.file.file_size in
    let none = compiled_lacks_no_text source answer.0 compiled.tables picture answer.1 from.compiles small in
    subst (λ (file : List ℕ). unspelled file ≡ text_excess (back (tables_of file))) (sym from.bytes) none
compiled_files_have_texts source picture (Err e) answer = tt
