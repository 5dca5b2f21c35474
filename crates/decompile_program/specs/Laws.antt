-- Writing out tables keeps their meaning.
use Rattle.std.specs.Prelude.{◌≡◌, List}
use Rattle.kmn_base.specs.declared.events.Event.{Event}
use Rattle.rule_model.specs.declared.tables.Tables.{Tables}
use Rattle.rule_model.specs.Src.{src}
use Rattle.rule_model.specs.Tab.{tab}
use Rattle.rule_model.specs.Trace.{trace}
use Rattle.kmx_format.specs.Playable.{IsPlayable}
use Rattle.decompile_program.specs.Back.{back}
use Rattle.decompile_program.specs.WrittenOut.{CanBeWrittenOut}

-- the program that tables are written out as begins in the same state as the tables and takes the same steps, for all events
abbrev pub DecompilingKeepsMeaning : Type 0
DecompilingKeepsMeaning =
    (tables : Tables) → IsPlayable tables → CanBeWrittenOut tables → (events : List Event) → trace (src (back tables)) events ≡ trace (tab tables) events
