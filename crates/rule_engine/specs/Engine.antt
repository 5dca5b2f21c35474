-- The state of an engine, and how a press, a new text and the host change it.
use Rattle.std.specs.Prelude.{◌≡◌, ◌≤◌, ℕ, List, [], length, map, Option, Some, None, Bool, position, slice_get, slice_set}
use Rattle.kmn_base.specs.declared.items.Item.{Item}
use Rattle.kmn_base.specs.declared.items.Element.{Element}
use Rattle.kmn_base.specs.declared.items.Element.TheVariants.{Char}
use Rattle.kmn_base.specs.declared.keys.KeyPress.{KeyPress}
use Rattle.kmn_base.specs.declared.events.Outcome.{Outcome}
use Rattle.kmn_base.specs.declared.limits.TheConstants.{EVENT_PUTS, STORES, WINDOW_ITEMS}
use Rattle.kmn_base.specs.Lists.{read_again, window}
use Rattle.rule_model.specs.declared.event_state.EventState.{EventState}
use Rattle.rule_model.specs.declared.tables.Tables.{Tables}
use Rattle.rule_model.specs.Event.{has_name}
use Rattle.rule_model.specs.Keyboard.{StoreMeaning}
use Rattle.rule_model.specs.KeyEvent.{begin_event, after_key, outcome_of, inserted}
use Rattle.rule_model.specs.ChosenLines.{lines_of_press}
use Rattle.rule_model.specs.Tab.{tab}
use Rattle.rule_model.specs.Trace.{options_of, first_state}
use Rattle.option_store.specs.declared.options.Cell.{Cell}
use Rattle.option_store.specs.Meaning.{option_values, option_saves}
use Rattle.rule_index.specs.Stores.{HaveFewElements}
use Rattle.event_text.specs.Boxed.{CacheValue}
use Rattle.event_text.specs.Texts.{InsertedValue}
use Rattle.rule_matching.specs.MatchState.{truths_at}
use Rattle.rule_engine.specs.Event.{HasPlaces, HasCapacity, HasShortContexts, HaveFewRecords, OthersHoldThemselves, PlatformStays, match_state_with}

-- the state of an engine: its tables, the last items before the caret, the current and the saved value of each option in order, what the
-- last press inserted, and the lines of the rules that were chosen for it
pub record EngineState : Type 0 where
  pub tables : Tables
  pub context : List Item
  pub current : List (List Element)
  pub saved : List (Option (List Element))
  pub inserted : List ℕ
  pub chosen : List ℕ

-- an engine has at most as many context items as a window, a current and a saved value for each option, and at most as many inserted
-- characters as a press may put items
pub record IsEngine (engine : EngineState) : Type 0 where
  pub few : length engine.context ≤ WINDOW_ITEMS
  pub current : length engine.current ≡ length (options_of (tab engine.tables).stores)
  pub saved : length engine.saved ≡ length (options_of (tab engine.tables).stores)
  pub inserted : length engine.inserted ≤ EVENT_PUTS

-- the engine before the first event: an empty text, each option with its elements, no saved value, nothing inserted and no rule chosen
abbrev pub first_engine : Tables → EngineState
first_engine tables =
    record {
      tables = tables;
      context = [];
      current = (first_state (tab tables)).current;
      saved = (first_state (tab tables)).saved;
      inserted = [];
      chosen = [];
    }

-- the engine with these tables and last items, with the values that cells denote, what a press inserted, and the lines of the rules that
-- were chosen for it
abbrev pub engine_with : Tables → List Item → List Cell → List ℕ → List ℕ → EngineState
engine_with tables context cells inserted chosen =
    record {
      tables = tables;
      context = context;
      current = option_values (tab tables).stores cells;
      saved = option_saves (tab tables).stores cells;
      inserted = inserted;
      chosen = chosen;
    }

-- tables that can be run: no context has more items than can be caught, no group has more records and no store has more elements than can
-- be indexed, there are no more stores than a file may have, and no output changes the platform
pub record IsRunnable (tables : Tables) : Type 0 where
  pub short : HasShortContexts tables
  pub few : HaveFewRecords tables.groups
  pub elements : HaveFewElements tables.stores
  pub stores : length tables.stores ≤ STORES
  pub platform : PlatformStays tables

-- the parts of an engine: tables that can be run, the last items, a cell for each store, where a store that is not an option holds itself,
-- for each store whether the platform has the words of its elements, and space for a press and for the places that it finds
pub record IsAtWork (tables : Tables) (cache : CacheValue) (cells : List Cell) (truths : List Bool) (inserted : InsertedValue) (lines : ℕ) (rooms : ℕ × ℕ) : Type 0 where
  pub runnable : IsRunnable tables
  pub few : length cache.items ≤ WINDOW_ITEMS
  pub stores : length cells ≡ length (tab tables).stores
  pub others : OthersHoldThemselves tables cells
  pub right : truths ≡ truths_at (match_state_with tables cells)
  pub text : length inserted.text ≤ EVENT_PUTS
  pub room : HasCapacity cache inserted lines
  pub places : HasPlaces tables rooms

-- the state in which a press begins, after the text before the caret is read again, and the state that the press leaves
abbrev pub begun : List ℕ → EngineState → EventState
begun text engine = begin_event (read_again engine.context text) engine.current engine.saved

abbrev pub pressed : List ℕ → KeyPress → EngineState → EventState
pressed text press engine = after_key (tab engine.tables) press (begun text engine)

-- the outcome of the press
abbrev pub press_outcome : List ℕ → KeyPress → EngineState → Outcome
press_outcome text press engine = outcome_of (read_again engine.context text) (pressed text press engine)

-- the engine after the press
abbrev pub press_leaves : List ℕ → KeyPress → EngineState → EngineState
press_leaves text press engine =
    let s = pressed text press engine in
    record {
      tables = engine.tables;
      context = window s.left;
      current = s.current;
      saved = s.saved;
      inserted = inserted (read_again engine.context text) s.left;
      chosen = lines_of_press (tab engine.tables) press (begun text engine);
    }

-- the name of a store of a keyboard, including the layer and the platform, or empty if there is no such store
abbrev pub name_in : Option StoreMeaning → List ℕ
name_in None = []
name_in (Some store) = store.name

abbrev pub name_of : Tables → ℕ → List ℕ
name_of tables store = name_in (slice_get (tab tables).stores store)

-- the engine after the text was read again
abbrev pub synced : List ℕ → EngineState → EngineState
synced text engine = record engine { context = window (read_again engine.context text) }

-- the number of the first option that has a name; the layer and the platform come after the stores of the file
abbrev pub option_named : List ℕ → EngineState → Option ℕ
option_named name engine = position (has_name name) (first_state (tab engine.tables)).names

-- the engine after the host sets an option, if there is one, to a value, as its current and as its saved value
abbrev pub with_option : Option ℕ → List Element → EngineState → EngineState
with_option None value engine = engine
with_option (Some option) value engine =
    record engine { current = slice_set engine.current option value; saved = slice_set engine.saved option (Some value) }

-- the engine after the host set the option of a name
abbrev pub set_by_host : List ℕ → List ℕ → EngineState → EngineState
set_by_host name value engine = with_option (option_named name engine) (map Char value) engine
