-- The state that a session represents, and the effect of an event on it.
use Rattle.std.specs.Prelude.{◌≡◌, ℕ, ◌*◌, ◌+◌, ◌≤◌, Bool, if◌then◌else◌, List, [], length}
use Rattle.kmn_base.specs.declared.events.Event.{Event}
use Rattle.kmn_base.specs.declared.events.Event.TheVariants as event
use Rattle.kmn_base.specs.Lists.{characters, window, IsSound}
use Rattle.rule_model.specs.declared.tables.Tables.{Tables}
use Rattle.rule_model.specs.Act.{one_more}
use Rattle.rule_model.specs.ChosenLines.{chosen}
use Rattle.rule_model.specs.Event.{State, Happening, happening}
use Rattle.rule_model.specs.Tab.{tab}
use Rattle.rule_model.specs.Trace.{first_state}
use Rattle.context_cache.specs.Cached.{text_with_context}
use Rattle.rule_engine.specs.Engine.{EngineState}
use Rattle.editor_model.specs.Text.{EditorText}
use Rattle.play_session.specs.declared.changes.Change.{Change}
use Rattle.play_session.specs.Changes.{Values, option_stores, changes_between}

-- the text that the last key press inserted, and the lines of the rules that it chose
pub record Pressed : Type 0 where
  pub inserted : List ℕ
  pub chosen : List ℕ

-- a session: its tables, the state that it represents, the number of its last step, the text that the step inserted, the lines of
-- the rules that it chose and the option values that it changed, and its last press, even if other steps followed it
pub record SessionState : Type 0 where
  pub tables : Tables
  pub state : State
  pub number : ℕ
  pub inserted : List ℕ
  pub chosen : List ℕ
  pub changes : List Change
  pub pressed : Pressed

-- the state that an engine and an editor represent together: the left list is the editor's text before the caret, with the
-- engine's cached context at its end
abbrev pub stands_for : EngineState → EditorText → State
stands_for engine editor =
    record {
      left = text_with_context editor.left engine.context;
      right = editor.right;
      names = (first_state (tab engine.tables)).names;
      current = engine.current;
      saved = engine.saved;
    }

-- the text that the last step inserted: the text of the engine's last press if the step was a press, else none
abbrev pub typed_text : Bool → EngineState → List ℕ
typed_text typed engine = if typed then engine.inserted else []

-- the lines of the rules that the last step chose: the lines of the engine's last press if the step was a press, else none
abbrev pub typed_lines : Bool → EngineState → List ℕ
typed_lines typed engine = if typed then engine.chosen else []

-- the last press of an engine
abbrev pub press_of : EngineState → Pressed
press_of engine = record { inserted = engine.inserted; chosen = engine.chosen }

-- the session of an engine and an editor after the step with a number, given whether it was a press and what it changed
abbrev pub session_of : EngineState → EditorText → ℕ → Bool → List Change → SessionState
session_of engine editor number typed changes =
    record {
      tables = engine.tables;
      state = stands_for engine editor;
      number = number;
      inserted = typed_text typed engine;
      chosen = typed_lines typed engine;
      changes = changes;
      pressed = press_of engine;
    }

-- the engine of a session
abbrev pub engine_of : SessionState → EngineState
engine_of session =
    record {
      tables = session.tables;
      context = window session.state.left;
      current = session.state.current;
      saved = session.state.saved;
      inserted = session.pressed.inserted;
      chosen = session.pressed.chosen;
    }

-- a session has the inserted text and the chosen lines of its engine's last press, or none if its last step was not a press
pub record TellsPress (session : SessionState) (engine : EngineState) : Type 0 where
  pub typed : Bool
  pub inserted : session.inserted ≡ typed_text typed engine
  pub chosen : session.chosen ≡ typed_lines typed engine

-- the left list that both represent has the editor's text, and its marks only in the window, which is the engine's context; the
-- whole text has at most this number of characters
pub record AreTogether (limit : ℕ) (engine : EngineState) (editor : EditorText) : Type 0 where
  pub same : characters (stands_for engine editor).left ≡ editor.left
  pub sound : IsSound (stands_for engine editor).left
  pub context : window (stands_for engine editor).left ≡ engine.context
  pub few : length editor.left + length editor.right ≤ limit

-- these stores are the options of tables, and there is capacity for two changes of each
pub record HasCapacity (tables : Tables) (options : List ℕ) (room : ℕ) : Type 0 where
  pub stores : options ≡ option_stores tables
  pub changes : 2 * length options ≤ room

-- the session before its first event
abbrev pub first_session : Tables → SessionState
first_session tables =
    record {
      tables = tables;
      state = first_state (tab tables);
      number = 0;
      inserted = [];
      chosen = [];
      changes = [];
      pressed = record { inserted = []; chosen = [] };
    }

-- what an event that is not refused does
abbrev pub happened : SessionState → Event → Happening
happened session event = happening (tab session.tables) session.state event

-- the values of the options in a state
abbrev pub values_of : State → Values
values_of state = record { current = state.current; saved = state.saved }

-- the last press after an event: the event itself if it is a press, else the last press before it
abbrev pub pressed_after : SessionState → Event → Pressed
pressed_after session (event.Key press) =
    record {
      inserted = (happened session (event.Key press)).inserted;
      chosen = chosen (tab session.tables) session.state (event.Key press);
    }
pressed_after session other = session.pressed

-- the session after the step of an event
abbrev pub after_step : SessionState → Event → SessionState
after_step session event =
    record {
      tables = session.tables;
      state = (happened session event).after;
      number = one_more session.number;
      inserted = (happened session event).inserted;
      chosen = chosen (tab session.tables) session.state event;
      changes = changes_between session.tables (values_of session.state) (values_of (happened session event).after);
      pressed = pressed_after session event;
    }
