-- The conversions do not change what a keyboard does.
use Rattle.std.specs.Prelude.{◌≡◌, List}
use Rattle.kmn_base.specs.declared.events.Event.{Event}
use Rattle.kmn_base.specs.declared.keys.KeyPress.{KeyPress}
use Rattle.rule_model.specs.declared.event_state.EventState.{EventState}
use Rattle.rule_model.specs.declared.tables.Tables.{Tables}
use Rattle.rule_model.specs.Keyboard.{Keyboard}
use Rattle.rule_model.specs.KeyEvent.{after_key}
use Rattle.rule_model.specs.Tab.{tab}
use Rattle.rule_model.specs.Trace.{first_state, trace}
use Rattle.core_conversions.specs.Conversions.{nul_first, plain_sides, empty_as_nomatch, converted}

-- tables that are converted take the same steps for all events
abbrev pub KeepsTraces : (Tables → Tables) → Type 0
KeepsTraces convert = (tables : Tables) (events : List Event) → trace (tab (convert tables)) events ≡ trace (tab tables) events

abbrev pub NulFirstKeepsTraces : Type 0
NulFirstKeepsTraces = KeepsTraces nul_first

abbrev pub PlainSidesKeepTraces : Type 0
PlainSidesKeepTraces = KeepsTraces plain_sides

abbrev pub EmptyAsNomatchKeepsTraces : Type 0
EmptyAsNomatchKeepsTraces = KeepsTraces empty_as_nomatch

abbrev pub ConvertedKeepsTraces : Type 0
ConvertedKeepsTraces = KeepsTraces converted

-- two keyboards have the same first state, and each press has the same effect on each state
pub record PressesAreSame (a b : Keyboard) : Type 0 where
  pub first : first_state a ≡ first_state b
  pub each : (press : KeyPress) (s : EventState) → after_key a press s ≡ after_key b press s

abbrev pub KeepsPresses : (Tables → Tables) → Type 0
KeepsPresses convert = (tables : Tables) → PressesAreSame (tab (convert tables)) (tab tables)

-- each conversion keeps what presses do
pub record ConversionsKeepPresses : Type 0 where
  pub nul : KeepsPresses nul_first
  pub sides : KeepsPresses plain_sides
  pub empty : KeepsPresses empty_as_nomatch
