-- The order of work of a check.
use Rattle.std.specs.Prelude.{ℕ, if◌then◌else◌, List, [], ◌∷◌, Option, Some, None, Result, Ok, Err}
use Rattle.kmn_base.specs.declared.codes.Code.TheVariants.{L05}
use Rattle.kmn_base.specs.declared.limits.TheConstants.{TEXT_BYTES}
use Rattle.kmn_base.specs.declared.refusals.Refusal.{Refusal}
use Rattle.rule_model.specs.Src.{src}
use Rattle.rule_model.specs.declared.program.Program.{Program}
use Rattle.rule_model.specs.declared.tables.Tables.{Tables}
use Rattle.rule_checker.specs.Refused.{checked}
use Rattle.kmn_compiler.specs.declared.compiling.Compiled.{Compiled}
use Rattle.source_faults.specs.Faults.{faults}
use Rattle.name_warnings.specs.declared.warning.Warning.{Warning}
use Rattle.source_warnings.specs.Aside.{aside_words}
use Rattle.source_warnings.specs.Warnings.{warnings}
use Rattle.dead_rules.specs.DeadRules.{with_dead_rules}
use Rattle.keyman_words.specs.LayoutNames.{is_layout}
use Rattle.keyman_words.specs.declared.reason.Reason.{Reason}
use Rattle.keyman_run.specs.Endings.{Ending}
use Rattle.keyman_run.specs.Inputs.{by_line}
use Rattle.keyman_run.specs.Orders.{file_work, script_work}
use Rattle.keyman_run.specs.Steps.{at_line_one}
use Rattle.keyman_run.specs.Work.{Reading, Work, given, and_then}
use Rattle.keyman_run.specs.Work.Reading.{Bytes, Over}
use Rattle.keyman_run.specs.Work.Work.{Give, Refuse, Read}
use Rattle.check_run.specs.declared.findings.Findings.{Findings}
use Rattle.check_run.specs.declared.findings.Findings.TheVariants as findings
use Rattle.check_run.specs.declared.findings.InputFindings.{InputFindings}
use Rattle.check_run.specs.declared.findings.LayoutFindings.{LayoutFindings}
use Rattle.check_run.specs.declared.findings.LayoutFindings.TheVariants as layouts
use Rattle.check_run.specs.declared.findings.ScriptFindings.{ScriptFindings}
use Rattle.check_run.specs.declared.findings.ScriptFindings.TheVariants as script
use Rattle.check_run.specs.Inputs.{ids_in, layout_read, script_read}
use Rattle.check_run.specs.Shown.{refused_lines}
use Rattle.check_run.specs.Printed.{check_ending, stopped_ending}

-- the bytes of a source, unless it is over the size limit
abbrev pub bytes_in : Reading → Result (List ℕ) Reason
bytes_in (Bytes bytes) = Ok bytes
bytes_in (Over size) = Err (at_line_one L05)

-- read a source
abbrev pub text_work : (source : List ℕ) → Work (List ℕ)
text_work source = Read source TEXT_BYTES (λ reading. given (bytes_in reading))

-- work with a value for its value, and one for its reason if it is refused
abbrev pub concluded : {A B : Type 0} → (A → B) → (Reason → B) → Work A → Work B
concluded good bad (Give value) = Give (good value)
concluded good bad (Refuse why) = Give (bad why)
concluded good bad (Read name limit next) = Read name limit (λ reading. concluded good bad (next reading))

-- read a touch layout and check it for the keyboard of tables: the ids of its keys
abbrev pub ids_work : Tables → (layout : List ℕ) → Work (List (List ℕ))
ids_work tables layout = Read layout TEXT_BYTES (λ reading. given (ids_in tables reading))

-- read a touch layout for a program with these tables: the reason why it is refused, or the rules whose keys it lacks
abbrev pub named_layout_work : Program → Tables → (layout : List ℕ) → Work LayoutFindings
named_layout_work program tables layout = concluded (layout_read program) layouts.Refused (ids_work tables layout)

-- the same for a layout that may not be given
abbrev pub layout_check_work : Program → Tables → (layout : Option (List ℕ)) → Work LayoutFindings
layout_check_work program tables None = Give (layouts.Accepted [])
layout_check_work program tables (Some layout) = named_layout_work program tables layout

-- read a script for a program with these tables: the reason why it is refused, or its options that the keyboard doesn't have
abbrev pub named_script_work : Program → Tables → (keys : List ℕ) → Work ScriptFindings
named_script_work program tables keys = concluded (script_read tables) script.Refused (script_work (src program).dictionary keys)

-- the same for a script that may not be given
abbrev pub script_check_work : Program → Tables → (keys : Option (List ℕ)) → Work ScriptFindings
script_check_work program tables None = Give (script.Accepted [])
script_check_work program tables (Some keys) = named_script_work program tables keys

-- what is found in a layout and in a script
abbrev pub inputs_given : LayoutFindings → ScriptFindings → Work InputFindings
inputs_given laid played = Give (record { layout = laid; script = played })

-- read the script after the layout, also if the layout is refused
abbrev pub after_layout_work : Program → Tables → (keys : Option (List ℕ)) → LayoutFindings → Work InputFindings
after_layout_work program tables keys laid = and_then (script_check_work program tables keys) (inputs_given laid)

-- read and check the layout and the script that are given, for a program with these tables
abbrev pub inputs_work : Program → Tables → (layout keys : Option (List ℕ)) → Work InputFindings
inputs_work program tables layout keys = and_then (layout_check_work program tables layout) (after_layout_work program tables keys)

-- the warnings of the program of bytes and of the tables that it compiles to, except those that lines for other programs may explain
unfoldable pub warnings_in : (bytes : List ℕ) → Program → Tables → List Warning
warnings_in bytes program tables = with_dead_rules tables (warnings program (aside_words bytes))

-- what is found in bytes whose program compiles: its warnings, and what is found in its inputs
abbrev pub findings_given : (bytes : List ℕ) → Program → Compiled → InputFindings → Work Findings
findings_given bytes program compiled inputs = Give (findings.Accepted (warnings_in bytes program compiled.tables) inputs)

-- check the layout and the script with the compiled file, find the warnings of the program
abbrev pub compiled_check_work : (layout keys : Option (List ℕ)) → (bytes : List ℕ) → Program → Compiled → Work Findings
compiled_check_work layout keys bytes program compiled =
    and_then (inputs_work program compiled.tables layout keys) (findings_given bytes program compiled)

-- check the program of the bytes of a source that has this name: read its picture, check that the file keeps its limits, check the inputs,
-- find the warnings
abbrev pub program_check_work : (source : List ℕ) → (layout keys : Option (List ℕ)) → (bytes : List ℕ) → Program → Work Findings
program_check_work source layout keys bytes program = and_then (file_work source program) (compiled_check_work layout keys bytes program)

-- check the bytes of a source without a refused line
abbrev pub file_check_work : (source : List ℕ) → (layout keys : Option (List ℕ)) → (bytes : List ℕ) → Work Findings
file_check_work source layout keys bytes = and_then (given (by_line (checked bytes))) (program_check_work source layout keys bytes)

-- refused lines are what is found; if there are none, check the bytes further
abbrev pub further_work : (source : List ℕ) → (layout keys : Option (List ℕ)) → (bytes : List ℕ) → List Refusal → Work Findings
further_work source layout keys bytes [] = file_check_work source layout keys bytes
further_work source layout keys bytes (first ∷ refusals) = Give (refused_lines bytes first (first ∷ refusals))

-- check bytes
abbrev pub bytes_check_work : (source : List ℕ) → (layout keys : Option (List ℕ)) → (bytes : List ℕ) → Work Findings
bytes_check_work source layout keys bytes = further_work source layout keys bytes (faults bytes)

-- read a source and check it
abbrev pub findings_work : (source : List ℕ) → (layout keys : Option (List ℕ)) → Work Findings
findings_work source layout keys = and_then (text_work source) (bytes_check_work source layout keys)

-- `SOURCE [LAYOUT] [KEYS]`: read the source, find its refusals or its warnings; if nothing is refused, read the layout and then the script
-- that are given; print what is found
abbrev pub check_work : (source : List ℕ) → (layout keys : Option (List ℕ)) → Work Ending
check_work source layout keys = concluded (check_ending source layout keys) (stopped_ending source) (findings_work source layout keys)

-- the same for one name after that of the source: it is the name of a layout by its end, else that of a script
unfoldable pub last_work : (source last : List ℕ) → Work Ending
last_work source last = if is_layout last then check_work source (Some last) None else check_work source None (Some last)
