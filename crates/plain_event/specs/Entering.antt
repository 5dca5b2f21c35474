-- The parts of an entering: a key press on tables.
use Rattle.std.specs.Prelude.{List}
use Rattle.rule_model.specs.declared.event_state.EventState.{EventState}
use Rattle.plain_event.specs.declared.entering.Entering.{Entering}
use Rattle.rule_model.specs.declared.tables.Store.{Store}
use Rattle.rule_model.specs.Keyboard.{Ref, Keyboard}
use Rattle.rule_model.specs.Enter.{enter_group}
use Rattle.rule_model.specs.Tab.{tab}
use Rattle.rule_model.specs.ChosenLines.{Adding, add_lines}

-- the keyboard of an entering
abbrev pub keyboard_of : Entering → Keyboard
keyboard_of entering = tab entering.indexed.now

-- the stores of an entering
abbrev pub stores_of : Entering → List Store
stores_of entering = entering.indexed.now.stores

-- how an entering enters a group
abbrev pub enters : Entering → Ref → EventState → EventState
enters entering = enter_group entering.depth (keyboard_of entering) entering.press

-- which lines an entering adds when it enters a group
abbrev pub adds : Entering → Adding
adds entering = add_lines entering.depth (keyboard_of entering) entering.press
