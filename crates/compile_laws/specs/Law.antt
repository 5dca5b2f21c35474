-- The laws of the compiler.
use Rattle.std.specs.Prelude.{◌≡◌, true, List}
use Rattle.std.specs.List.{list_all}
use Rattle.kmn_base.specs.declared.events.Event.{Event}
use Rattle.rule_model.specs.declared.program.Program.{Program}
use Rattle.rule_model.specs.declared.program.GroupDef.{GroupDef}
use Rattle.rule_model.specs.declared.tables.Tables.{Tables}
use Rattle.compile_laws.specs.WellNamed.{IsWellNamed}
use Rattle.rule_model.specs.OwnLines.{have_own_lines}
use Rattle.compile_laws.specs.Compiles.{Compiles}
use Rattle.compile_laws.specs.Ordered.{compiled_tables}
use Rattle.rule_model.specs.Src.{src}
use Rattle.rule_model.specs.Tab.{tab}
use Rattle.rule_model.specs.Trace.{trace}
use Rattle.rule_model.specs.Transcript.{transcript}
use Rattle.rule_model.specs.declared.script.Entry.{Entry}

-- the tables that a well-named program compiles to begin in the same state as the program and take the same steps for all events
abbrev pub MeaningIsKept : Type 0
MeaningIsKept =
    (program : Program) (tables : Tables) → IsWellNamed program → Compiles program tables →
    (events : List Event) → trace (src program) events ≡ trace (tab tables) events

-- these tables print the same lines for a script as the program
abbrev pub TranscriptIsKept : Type 0
TranscriptIsKept =
    (program : Program) (tables : Tables) → IsWellNamed program → Compiles program tables →
    (entries : List Entry) → transcript (src program) entries ≡ transcript (tab tables) entries

-- each rule of a group has its own line
abbrev pub HasOwnLines : Program → Type 0
HasOwnLines program = list_all (λ (group : GroupDef). have_own_lines group.rules) program.groups ≡ true

-- if rules have distinct lines, a program compiles to only one list of tables
abbrev pub TablesAreOnlyOnes : Type 0
TablesAreOnlyOnes = (program : Program) (tables : Tables) → HasOwnLines program → Compiles program tables → tables ≡ compiled_tables program

-- a program compiles to its tables
abbrev pub ProgramCompiles : Type 0
ProgramCompiles = (program : Program) → Compiles program (compiled_tables program)
