-- What the inputs of a command mean: a value, or the reason for refusing the input.
use Rattle.std.specs.Prelude.{◌≡◌, ℕ, nat_lt, length, if◌then◌else◌, List, Option, Some, None, Result, Ok, Err}
use Rattle.kmn_base.specs.Answers.{and_then}
use Rattle.kmn_base.specs.declared.codes.Code.{Code}
use Rattle.kmn_base.specs.declared.codes.Code.TheVariants.{C24, L05, P06, T7, V15}
use Rattle.kmn_base.specs.declared.refusals.Refusal.{Refusal}
use Rattle.rule_model.specs.declared.program.Program.{Program}
use Rattle.rule_model.specs.declared.script.Entry.{Entry}
use Rattle.rule_model.specs.declared.tables.Tables.{Tables}
use Rattle.compile_laws.specs.Ordered.{compiled_tables}
use Rattle.kmx_format.specs.File.{all_rules, file_of}
use Rattle.kmx_writer.specs.Excess.{excess}
use Rattle.rule_checker.specs.Refused.{checked}
use Rattle.kmn_compiler.specs.declared.compiling.Compiled.{Compiled}
use Rattle.play_script.specs.Entries.{entries}
use Rattle.text_host.specs.HostEntries.{host_entries}
use Rattle.text_host.specs.declared.entries.HostEntry.{HostEntry}
use Rattle.kmx_format.specs.TablesOf.{tables_of}
use Rattle.kmx_verifier.specs.declared.faults.Fault.{Fault}
use Rattle.kmx_verifier.specs.FaultOf.{fault_of}
use Rattle.kmn_parser.specs.Programs.{program_text}
use Rattle.decompile_program.specs.Back.{back}
use Rattle.kmx_decompiler.specs.Laws.{HasText}
use Rattle.kmx_decompiler.specs.Unspelled.{unspelled}
use Rattle.kmx_decompiler.specs.declared.no_spelling.NoSpelling.{NoSpelling}
use Rattle.kmn_base.specs.declared.limits.TheConstants.{SHADOW_RECORDS}
use Rattle.touch_layout.specs.Faults.{fault, whole_layout}
use Rattle.touch_layout.specs.Layout.{key_count, layout_fault}
use Rattle.touch_layout.specs.declared.faults.LayoutFault.{LayoutFault}
use Rattle.keyman_words.specs.declared.reason.Reason.{Reason}
use Rattle.keyman_words.specs.declared.reason.Reason.TheVariants as reason
use Rattle.keyman_run.specs.Work.{Reading}
use Rattle.keyman_run.specs.Work.Reading.{Bytes, Over}

-- the result of reading lines, with a refusal as the reason that names its line
abbrev pub by_line : {A : Type 0} → Result A Refusal → Result A Reason
by_line (Ok value) = Ok value
by_line (Err refusal) = Err (reason.Line refusal)

-- the program of a source, or its first refusal
abbrev pub program_of : Reading → Result Program Reason
program_of (Bytes source) = by_line (checked source)
program_of (Over size) = Err (reason.Line (record { line = 1; code = L05 }))

-- the bytes of a picture, or the refusal C24 if it is over its size limit
abbrev pub picture_of : Reading → Result (List ℕ) Reason
picture_of (Bytes picture) = Ok picture
picture_of (Over size) = Err (reason.Size C24 size)

-- a program with the picture that its file has
pub record Pictured : Type 0 where
  pub program : Program
  pub picture : List ℕ

-- the file that a program with a picture compiles to
abbrev pub file_from : Pictured → Compiled
file_from pictured = record { bytes = file_of (compiled_tables pictured.program) pictured.picture; tables = compiled_tables pictured.program }

-- a program with its picture, unless its file would be over a limit
abbrev pub unless_large : Pictured → Option (Code × ℕ) → Result Pictured Reason
unless_large pictured None = Ok pictured
unless_large pictured (Some passed) = Err (reason.Size passed.0 passed.1)

abbrev pub pictured_within : Program → List ℕ → Result Pictured Reason
pictured_within program picture = unless_large (record { program = program; picture = picture }) (excess (compiled_tables program) picture)

-- the entries of a script for a keyboard with this dictionary of keys, or the first rule that the script breaks
abbrev pub script_of : List (List ℕ) → Reading → Result (List Entry) Reason
script_of dictionary (Bytes script) = by_line (entries dictionary script)
script_of dictionary (Over size) = Err (reason.Line (record { line = 1; code = P06 }))

-- the bytes of a file, unless it is over the size limit
abbrev pub bytes_of : Reading → Result (List ℕ) Reason
bytes_of (Bytes bytes) = Ok bytes
bytes_of (Over size) = Err (reason.File (record { code = V15; at = 0; unit = 0 }))

-- tables, unless their file has a fault
abbrev pub unless_faulty : Tables → Option Fault → Result Tables Reason
unless_faulty tables None = Ok tables
unless_faulty tables (Some fault) = Err (reason.File fault)

-- the tables of a valid file, or the first fault
abbrev pub tables_of_file : List ℕ → Result Tables Reason
tables_of_file bytes = unless_faulty (tables_of bytes) (fault_of bytes)

-- tables, unless they have more records than are searched for dead rules
abbrev pub few_records : Tables → Result Tables Reason
few_records tables = if nat_lt SHADOW_RECORDS (length (all_rules tables)) then Err (reason.Records (length (all_rules tables))) else Ok tables

-- the entries of a host's script for a keyboard with this dictionary of keys, or the first rule that the script breaks
abbrev pub host_script_of : List (List ℕ) → Reading → Result (List HostEntry) Reason
host_script_of dictionary (Bytes script) = by_line (host_entries dictionary script)
host_script_of dictionary (Over size) = Err (reason.Line (record { line = 1; code = P06 }))

-- the source that tables decompile to, or the reason if their file has none
abbrev pub unless_unspelled : Tables → Option NoSpelling → Result (List ℕ) Reason
unless_unspelled tables None = Ok (program_text (back tables))
unless_unspelled tables (Some why) = Err (reason.Text why)

-- the source that a file decompiles to, its first fault, or the reason if it has no source
abbrev pub text_of_file : List ℕ → Result (List ℕ) Reason
text_of_file bytes = and_then (tables_of_file bytes) (λ tables. unless_unspelled tables (unspelled bytes))

-- the bytes have a text, and it is the source that they decompile to
pub record IsTextOf (bytes text : List ℕ) : Type 0 where
  pub has : HasText bytes
  pub is : text ≡ program_text (back (tables_of bytes))

-- the number of keys of a layout, unless it breaks a rule
abbrev pub unless_broken : ℕ → Option LayoutFault → Result ℕ Reason
unless_broken count None = Ok count
unless_broken count (Some broken) = Err (reason.Layout broken)

-- the number of keys of a touch layout if it keeps all rules for the keyboard of tables, else the first rule that it breaks
abbrev pub keys_of : Tables → Reading → Result ℕ Reason
keys_of tables (Bytes layout) = unless_broken (key_count layout) (layout_fault layout tables)
keys_of tables (Over size) = Err (reason.Layout (fault T7 whole_layout))
