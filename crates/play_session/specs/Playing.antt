-- The effect of a key press, before the editor's default.
use Rattle.kmn_base.specs.declared.keys.KeyPress.{KeyPress}
use Rattle.rule_model.specs.declared.event_state.EventState.{EventState}
use Rattle.rule_model.specs.declared.tables.Tables.{Tables}
use Rattle.rule_model.specs.KeyEvent.{begin_event, after_key}
use Rattle.rule_model.specs.Event.{State}
use Rattle.rule_model.specs.Tab.{tab}

-- the left list and the values after a key press in a state
abbrev pub press_gives : Tables → KeyPress → State → EventState
press_gives tables press state = after_key (tab tables) press (begin_event state.left state.current state.saved)

-- a state with the left list and the values after a key press
abbrev pub acted : EventState → State → State
acted s state = record state { left = s.left; current = s.current; saved = s.saved }
