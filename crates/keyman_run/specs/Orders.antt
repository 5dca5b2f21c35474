-- The order of work of each command.
use Rattle.std.specs.Prelude.{ℕ, List, [], Option, Some, None}
use Rattle.kmn_base.specs.declared.limits.TheConstants.{FILE_BYTES, PICTURE_BYTES, TEXT_BYTES}
use Rattle.rule_model.specs.Src.{src}
use Rattle.rule_model.specs.Tab.{tab}
use Rattle.rule_model.specs.declared.program.Program.{Program}
use Rattle.rule_model.specs.declared.script.Entry.{Entry}
use Rattle.rule_model.specs.declared.tables.Tables.{Tables}
use Rattle.compile_laws.specs.Ordered.{compiled_tables}
use Rattle.kmn_compiler.specs.Picture.{picture_name}
use Rattle.kmn_compiler.specs.declared.compiling.Compiled.{Compiled}
use Rattle.rule_trace.specs.Coverage.{lines_of_tables}
use Rattle.keyman_words.specs.Beside.{beside}
use Rattle.keyman_words.specs.Command.{Request}
use Rattle.keyman_words.specs.Command.Request.{Compile, Decompile, Host, Layout, Load, Play, Shadow, Test, Trace, Verify}
use Rattle.text_host.specs.declared.entries.HostEntry.{HostEntry}
use Rattle.keyman_run.specs.Endings.{Ending, Job, compile_ending, decompile_ending, host_ending, layout_ending, load_ending, play_ending, shadow_ending, test_ending, trace_ending, verify_ending, words_ending}
use Rattle.keyman_run.specs.Inputs.{Pictured, few_records, file_from, host_script_of, keys_of, picture_of, pictured_within, program_of, script_of, bytes_of, tables_of_file, text_of_file}
use Rattle.keyman_run.specs.Loads.{load_text}
use Rattle.keyman_run.specs.Work.{Work, given, and_then}
use Rattle.keyman_run.specs.Work.Work.{Give, Read}

-- read a source and check it
abbrev pub source_work : (source : List ℕ) → Work Program
source_work source = Read source TEXT_BYTES (λ reading. given (program_of reading))

-- read the picture of this name in the folder of the source; without a name, read no file
abbrev pub picture_work : (source : List ℕ) → Option (List ℕ) → Work (List ℕ)
picture_work source None = Give []
picture_work source (Some name) = Read (beside source name) PICTURE_BYTES (λ reading. given (picture_of reading))

-- read the picture of a source's program, and check that the file keeps the limits
abbrev pub pictured_work : (source : List ℕ) → Program → Work Pictured
pictured_work source program = and_then (picture_work source (picture_name program)) (λ picture. given (pictured_within program picture))

-- read a source, check it, read its picture, and check that the file keeps the limits
abbrev pub program_work : (source : List ℕ) → Work Pictured
program_work source = and_then (source_work source) (pictured_work source)

-- compile a source's program with its picture
abbrev pub file_work : (source : List ℕ) → Program → Work Compiled
file_work source program = and_then (pictured_work source program) (λ pictured. Give (file_from pictured))

-- read and compile a source with its picture
abbrev pub compiled_work : (source : List ℕ) → Work Compiled
compiled_work source = and_then (source_work source) (file_work source)

-- read a script for a keyboard with this dictionary of keys
abbrev pub script_work : (dictionary : List (List ℕ)) → (keys : List ℕ) → Work (List Entry)
script_work dictionary keys = Read keys TEXT_BYTES (λ reading. given (script_of dictionary reading))

-- read and compile a source with its picture, then read a script
abbrev pub job_work : (source keys : List ℕ) → Work Job
job_work source keys =
    and_then (source_work source) (λ program.
    and_then (file_work source program) (λ compiled.
    and_then (script_work (src program).dictionary keys) (λ entries.
    Give (record { compiled = compiled; entries = entries }))))

-- `compile SOURCE FILE`: read and compile the source with its picture, write the file, print its counts
abbrev pub compile_work : (source file : List ℕ) → Work Ending
compile_work source file = and_then (program_work source) (λ pictured. Give (compile_ending file (file_from pictured)))

-- `test SOURCE FILE KEYS`: read and compile the source with its picture, read the script, write the file, print what the
-- source means for the script
abbrev pub test_work : (source file keys : List ℕ) → Work Ending
test_work source file keys =
    and_then (program_work source) (λ pictured.
    and_then (script_work (src pictured.program).dictionary keys) (λ entries.
    Give (test_ending file (file_from pictured).bytes (src pictured.program) entries)))

-- read a compiled keyboard
abbrev pub bytes_work : (file : List ℕ) → Work (List ℕ)
bytes_work file = Read file FILE_BYTES (λ reading. given (bytes_of reading))

-- read a compiled keyboard, and check that it is valid
abbrev pub tables_work : (file : List ℕ) → Work Tables
tables_work file = and_then (bytes_work file) (λ bytes. given (tables_of_file bytes))

-- `verify FILE`: read the file, print its version and counts
abbrev pub verify_work : (file : List ℕ) → Work Ending
verify_work file =
    and_then (bytes_work file) (λ bytes.
    and_then (given (tables_of_file bytes)) (λ tables.
    Give (verify_ending tables)))

-- read a compiled keyboard, and decompile it
abbrev pub text_work : (file : List ℕ) → Work (List ℕ)
text_work file = and_then (bytes_work file) (λ bytes. given (text_of_file bytes))

-- `decompile FILE SOURCE`: read the file, write the source that it decompiles to, print the size of the source
abbrev pub decompile_work : (file source : List ℕ) → Work Ending
decompile_work file source = and_then (text_work file) (λ text. Give (decompile_ending source text))

-- read a script for the keyboard of tables, print what the keyboard does with it
abbrev pub tables_play_work : Tables → (keys : List ℕ) → Work Ending
tables_play_work tables keys =
    and_then (script_work (tab tables).dictionary keys) (λ entries.
    Give (play_ending (tab tables) entries))

-- check that bytes are a valid file, and play a script on it
abbrev pub bytes_play_work : (bytes keys : List ℕ) → Work Ending
bytes_play_work bytes keys = and_then (given (tables_of_file bytes)) (λ tables. tables_play_work tables keys)

-- `play FILE KEYS`: read the file, read the script, print what the file's keyboard does with the script
abbrev pub play_work : (file keys : List ℕ) → Work Ending
play_work file keys = and_then (bytes_work file) (λ bytes. bytes_play_work bytes keys)

-- read a touch layout, and count its keys if it keeps all rules for the keyboard of tables
abbrev pub keys_work : Tables → (layout : List ℕ) → Work ℕ
keys_work tables layout = Read layout TEXT_BYTES (λ reading. given (keys_of tables reading))

-- read a touch layout and check it for the keyboard of tables, print the count of its keys
abbrev pub tables_layout_work : Tables → (layout : List ℕ) → Work Ending
tables_layout_work tables layout = and_then (keys_work tables layout) (λ count. Give (layout_ending count))

-- `layout SOURCE LAYOUT`: read and compile the source with its picture, read and check the layout, print the count of its keys
abbrev pub layout_work : (source layout : List ℕ) → Work Ending
layout_work source layout = and_then (program_work source) (λ pictured. tables_layout_work (compiled_tables pictured.program) layout)

-- `load NUMBER`: generate, compile and play the load of the number, print its line; no file is read
abbrev pub load_work : ℕ → Work Ending
load_work number = and_then (given (load_text number)) (λ line. Give (load_ending line))

-- `trace SOURCE KEYS`: read and compile the source with its picture, read the script, print which lines of the source fire for
-- the script
abbrev pub trace_work : (source keys : List ℕ) → Work Ending
trace_work source keys =
    and_then (program_work source) (λ pictured.
    and_then (script_work (src pictured.program).dictionary keys) (λ entries.
    Give (trace_ending (src pictured.program) (lines_of_tables (compiled_tables pictured.program)) entries)))

-- `shadow SOURCE`: read and compile the source with its picture, check that it has few enough records, print lines of the source
-- that never fire
abbrev pub shadow_work : (source : List ℕ) → Work Ending
shadow_work source =
    and_then (program_work source) (λ pictured.
    and_then (given (few_records (compiled_tables pictured.program))) (λ tables.
    Give (shadow_ending tables)))

-- read a host's script for a keyboard with this dictionary of keys
abbrev pub host_script_work : (dictionary : List (List ℕ)) → (keys : List ℕ) → Work (List HostEntry)
host_script_work dictionary keys = Read keys TEXT_BYTES (λ reading. given (host_script_of dictionary reading))

-- read a host's script for the keyboard of tables, print what the host's fields do with it
abbrev pub tables_host_work : Tables → (keys : List ℕ) → Work Ending
tables_host_work tables keys = and_then (host_script_work (tab tables).dictionary keys) (λ entries. Give (host_ending tables entries))

-- check that bytes are a valid file, and play a host's script in fields on it
abbrev pub bytes_host_work : (bytes keys : List ℕ) → Work Ending
bytes_host_work bytes keys = and_then (given (tables_of_file bytes)) (λ tables. tables_host_work tables keys)

-- `host FILE KEYS`: read the file, read the script, print what the fields of a host on the file do with the script
abbrev pub host_work : (file keys : List ℕ) → Work Ending
host_work file keys = and_then (bytes_work file) (λ bytes. bytes_host_work bytes keys)

-- the work of a request, and the work of arguments that are not a command
abbrev pub work_of : Option Request → Work Ending
work_of None = Give words_ending
work_of (Some (Compile source file)) = compile_work source file
work_of (Some (Test source file keys)) = test_work source file keys
work_of (Some (Verify file)) = verify_work file
work_of (Some (Decompile file source)) = decompile_work file source
work_of (Some (Play file keys)) = play_work file keys
work_of (Some (Layout source layout)) = layout_work source layout
work_of (Some (Load number)) = load_work number
work_of (Some (Trace source keys)) = trace_work source keys
work_of (Some (Shadow source)) = shadow_work source
work_of (Some (Host file keys)) = host_work file keys
