-- What it means that a compiled keyboard means a program.
use Rattle.std.specs.Prelude.{◌≡◌, ℕ, List}
use Rattle.kmn_base.specs.declared.events.Event.{Event}
use Rattle.rule_model.specs.declared.program.Program.{Program}
use Rattle.rule_model.specs.Src.{src}
use Rattle.rule_model.specs.Tab.{tab}
use Rattle.kmx_format.specs.TablesOf.{tables_of}
use Rattle.rule_model.specs.Trace.{trace}
use Rattle.kmx_format.specs.Writable.{IsFile}

-- bytes mean a program: they are a file, and its keyboard takes the same steps as the program's keyboard for all events
pub record Means (bytes : List ℕ) (program : Program) : Type 0 where
  pub file : IsFile bytes
  pub same_steps : (events : List Event) → trace (tab (tables_of bytes)) events ≡ trace (src program) events
