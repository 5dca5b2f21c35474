-- What `saving_line` guarantees if it returns no line.
use Rattle.std.specs.Prelude.{◌≡◌, ◌≤◌, List, None}
use Rattle.std.specs.List.{All}
use Rattle.kmn_base.specs.declared.events.Event.{Event}
use Rattle.rule_model.specs.declared.tables.Tables.{Tables}
use Rattle.rule_model.specs.Tab.{tab}
use Rattle.rule_model.specs.Trace.{Step, trace}
use Rattle.core_export.specs.Saves.{saving_line}

-- if there is no line at which an event may save twice, no event saves twice, for all events
abbrev pub NoEventSavesTwice : Type 0
NoEventSavesTwice = (tables : Tables) → saving_line tables ≡ None → (events : List Event) → All (λ (step : Step). step.happened.outcome.saved ≤ 1) (trace (tab tables) events).done
