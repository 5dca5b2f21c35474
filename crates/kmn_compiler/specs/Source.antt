-- What a source compiles to.
use Rattle.std.specs.Prelude.{◌≡◌, ℕ, List, Some, None, Result, Ok, Err}
use Rattle.kmn_base.specs.declared.refusals.Refusal.{Refusal}
use Rattle.kmn_base.specs.declared.refusals.CompileError.{CompileError}
use Rattle.kmn_base.specs.declared.refusals.CompileError.TheVariants.{Refused, TooLarge, Memory}
use Rattle.rule_model.specs.declared.program.Program.{Program}
use Rattle.rule_model.specs.Tab.{tab}
use Rattle.kmx_format.specs.File.{file_of}
use Rattle.kmx_format.specs.TablesOf.{tables_of}
use Rattle.kmx_format.specs.Writable.{IsFile, IsWritable}
use Rattle.kmx_writer.specs.Excess.{excess}
use Rattle.compile_laws.specs.Compiles.{Compiles}
use Rattle.compile_laws.specs.Means.{Means}
use Rattle.compile_laws.specs.Ordered.{compiled_tables}
use Rattle.kmx_verifier.specs.FaultOf.{IsValid}
use Rattle.kmn_compiler.specs.declared.compiling.Compiled.{Compiled}

-- whether compiled bytes are the file of the tables that a program compiles to, with a picture: it is valid and means the program
pub record IsCompiledFrom (program : Program) (picture : List ℕ) (compiled : Compiled) : Type 0 where
  pub compiles : Compiles program compiled.tables
  pub tables : compiled.tables ≡ compiled_tables program
  pub bytes : compiled.bytes ≡ file_of compiled.tables picture
  pub within : excess (compiled_tables program) picture ≡ None
  pub writable : IsWritable compiled.tables
  pub file : IsFile compiled.bytes
  pub valid : IsValid compiled.bytes
  pub means : Means compiled.bytes program
  pub keyboard : tab (tables_of compiled.bytes) ≡ tab compiled.tables

-- the result of compiling a program, or a source that is read as this program or refusal, with a picture: exactly its refusal,
-- else exactly the limit that its picture or file would pass, else its file; only `Memory` is unspecified
abbrev pub CompilesTo : Result Program Refusal → List ℕ → Result Compiled CompileError → Type 0
CompilesTo read picture (Ok compiled) = (program : Program) × (read ≡ Ok program) × IsCompiledFrom program picture compiled
CompilesTo read picture (Err (Refused refusal)) = read ≡ Err refusal
CompilesTo read picture (Err (TooLarge code size)) = (program : Program) × (read ≡ Ok program) × (excess (compiled_tables program) picture ≡ Some (code, size))
CompilesTo read picture (Err Memory) = Unit {0}
