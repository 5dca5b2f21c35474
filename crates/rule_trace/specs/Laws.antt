-- The laws of the lines that an event chooses.
use Rattle.std.specs.Prelude.{◌≡◌, All}
use Rattle.std.specs.List.{Contains}
use Rattle.kmn_base.specs.declared.events.Event.{Event}
use Rattle.rule_model.specs.declared.program.Program.{Program}
use Rattle.rule_model.specs.declared.tables.Tables.{Tables}
use Rattle.rule_model.specs.Event.{State}
use Rattle.rule_model.specs.Src.{src}
use Rattle.rule_model.specs.Tab.{tab}
use Rattle.rule_model.specs.ChosenLines.{chosen}
use Rattle.compile_laws.specs.WellNamed.{IsWellNamed}
use Rattle.compile_laws.specs.Compiles.{Compiles}
use Rattle.rule_trace.specs.Coverage.{record_lines}

-- the tables that a well-named program compiles to choose the lines that the program chooses, at every state and event
abbrev pub ChoiceIsKept : Type 0
ChoiceIsKept =
    (program : Program) (tables : Tables) → IsWellNamed program → Compiles program tables →
    (state : State) (event : Event) → chosen (src program) state event ≡ chosen (tab tables) state event

-- the lines that tables choose are lines of their records, at every state and event
abbrev pub ChosenLinesAreLines : Type 0
ChosenLinesAreLines = (tables : Tables) (state : State) (event : Event) → All (Contains (record_lines tables)) (chosen (tab tables) state event)
