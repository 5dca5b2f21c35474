-- The option values of a keyboard that the cells of its stores denote. Cells are listed by the number of the store, values
-- by the number of the option.
use Rattle.std.specs.Prelude.{◌≡◌, ℕ, ◌<◌, List, length, map, Option, Some}
use Rattle.kmn_base.specs.declared.items.Element.{Element}
use Rattle.kmn_base.specs.declared.items.Element.TheVariants.{Char}
use Rattle.rule_model.specs.declared.event_state.EventState.{EventState}
use Rattle.rule_model.specs.Keyboard.{Keyboard, StoreMeaning, Numbered, stated}
use Rattle.rule_model.specs.Act.{set_current, save_current, reset_current}
use Rattle.rule_model.specs.Content.{elements_at, option_number}
use Rattle.rule_model.specs.Event.{State, set_option}
use Rattle.rule_model.specs.Plain.{of_options}
use Rattle.rule_model.specs.Trace.{first_state}
use Rattle.option_store.specs.declared.options.Cell.{Cell}
use Rattle.option_store.specs.Cells.{first_cells, changed, set_cell, save_cell, reset_cell, host_cell, current_values, saved_values}

-- the current and the saved value of each option
abbrev pub option_values : List StoreMeaning → List Cell → List (List Element)
option_values stores cells = of_options stores (current_values (stated stores) cells)

abbrev pub option_saves : List StoreMeaning → List Cell → List (Option (List Element))
option_saves stores cells = of_options stores (saved_values (stated stores) cells)

-- the state of an event with the values that the cells denote
abbrev pub with_values : List StoreMeaning → List Cell → EventState → EventState
with_values stores cells s =
    record s { current = option_values stores cells; saved = option_saves stores cells }

-- a state between events with these values
abbrev pub holding : List StoreMeaning → List Cell → State → State
holding stores cells state =
    record state { current = option_values stores cells; saved = option_saves stores cells }

-- each call on the cell of store n changes the values as the meaning does: `set` to store v, `save` except for its count, `reset` to the
-- elements of the store itself, and a text of the host
pub record Follow (stores : List StoreMeaning) (cells : List Cell) (n : ℕ) : Type 0 where
  pub set : (v : ℕ) (s : EventState)
      → set_current (option_number stores (Numbered n)) (elements_at stores (Some v)) (with_values stores cells s)
      ≡ with_values stores (changed n (set_cell v) cells) s
  pub save : (s : EventState)
      → save_current (option_number stores (Numbered n)) (with_values stores cells s)
      ≡ with_values stores (changed n save_cell cells) (save_current (option_number stores (Numbered n)) s)
  pub reset : (s : EventState)
      → reset_current (option_number stores (Numbered n)) (elements_at stores (Some n)) (with_values stores cells s)
      ≡ with_values stores (changed n (reset_cell n) cells) s
  pub host : (text : List ℕ) (state : State)
      → set_option (option_number stores (Numbered n)) (map Char text) (holding stores cells state)
      ≡ holding stores (changed n (host_cell text) cells) state

-- the calls follow the meaning for every list of stores and each cell
abbrev pub CallsFollow : Type 0
CallsFollow = (stores : List StoreMeaning) (cells : List Cell) (n : ℕ) → n < length cells → Follow stores cells n

-- the first cells of a keyboard's stores denote the values of its first state
abbrev pub FirstCellsAreFirstState : Type 0
FirstCellsAreFirstState =
    (kb : Keyboard) → holding kb.stores (first_cells 0 (length kb.stores)) (first_state kb) ≡ first_state kb
