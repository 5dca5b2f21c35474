-- The value of a store in a session, and the changes of a session as a transcript prints them.
use Rattle.std.specs.Prelude.{◌≡◌, ℕ, Bool, true, false, List, [], ◌++◌, flat_map, length, Option, Some, unwrap_or}
use Rattle.kmn_base.specs.declared.items.Element.{Element}
use Rattle.kmn_base.specs.declared.events.Event.{Event}
use Rattle.rule_model.specs.declared.tables.Tables.{Tables}
use Rattle.rule_model.specs.Content.{content}
use Rattle.rule_model.specs.Event.{State}
use Rattle.rule_model.specs.Keyboard.{Numbered}
use Rattle.rule_model.specs.Tab.{tab}
use Rattle.rule_model.specs.Trace.{options_of, first_state}
use Rattle.rule_model.specs.Transcript.{value_line, changes}
use Rattle.rule_engine.specs.Engine.{name_of}
use Rattle.rule_matching.specs.MatchState.{saved_of}
use Rattle.play_session.specs.declared.changes.Change.{Change}
use Rattle.play_session.specs.Session.{SessionState, first_session, after_step}

-- the current value of a store, or its saved value if any; a store that is not an option has its elements as its current value and
-- no saved value
abbrev pub value_of : SessionState → ℕ → Bool → Option (List Element)
value_of session store true = saved_of (tab session.tables).stores session.state.saved store
value_of session store false = Some (content (tab session.tables).stores session.state.current (Numbered store))

-- the line of a change of the last step, with this front: the name of the store and its new value
abbrev pub change_line : (front : List ℕ) → SessionState → Change → List ℕ
change_line front session change =
    front ++ value_line change.saved (name_of session.tables change.store) (unwrap_or (value_of session change.store change.saved) [])

abbrev pub change_lines : (front : List ℕ) → SessionState → List ℕ
change_lines front session = flat_map (change_line front session) session.changes

-- a session has the names of the options of its tables, and a current value and an optional saved value for each option
pub record IsSession (session : SessionState) : Type 0 where
  pub names : session.state.names ≡ (first_state (tab session.tables)).names
  pub current : length session.state.current ≡ length (options_of (tab session.tables).stores)
  pub saved : length session.state.saved ≡ length (options_of (tab session.tables).stores)

-- the lines of the values that a transcript prints from one state to the next
abbrev pub printed_changes : (front : List ℕ) → State → State → List ℕ
printed_changes front before after = changes front before.names before.current before.saved after.current after.saved

-- the changes of a step are those that a transcript prints, in the same order, with any front of each line
abbrev pub ChangesArePrinted : Type 0
ChangesArePrinted = (front : List ℕ) (session : SessionState) (event : Event) → IsSession session →
    printed_changes front session.state (after_step session event).state ≡ change_lines front (after_step session event)

-- a session has these before its first event, and it keeps them after an event
abbrev pub SessionsBegin : Type 0
SessionsBegin = (tables : Tables) → IsSession (first_session tables)

abbrev pub SessionsGoOn : Type 0
SessionsGoOn = (session : SessionState) (event : Event) → IsSession session → IsSession (after_step session event)
