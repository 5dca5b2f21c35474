-- The state inside an event as the engine has it: the tables, the caller's text, and the state of the event that they represent.
use Rattle.std.specs.Prelude.{◌≡◌, ◌<◌, ◌≤◌, ℕ, Bool, List, None, length, All}
use Rattle.kmn_base.specs.declared.limits.TheConstants.{EVENT_ENTRIES, EVENT_PUTS, RECORDS, WINDOW_ITEMS}
use Rattle.rule_model.specs.declared.event_state.EventState.{EventState}
use Rattle.rule_model.specs.declared.tables.Group.{Group}
use Rattle.rule_model.specs.declared.tables.Out.{Out}
use Rattle.rule_model.specs.declared.tables.Out.TheVariants as output
use Rattle.rule_model.specs.declared.tables.Rule.{Rule}
use Rattle.rule_model.specs.declared.tables.Tables.{Tables}
use Rattle.rule_model.specs.Keyboard.{Ref, Numbered, Keyboard, StoreMeaning}
use Rattle.rule_model.specs.Content.{option_number}
use Rattle.rule_model.specs.Match.{Content}
use Rattle.rule_model.specs.Act.{content_now}
use Rattle.rule_model.specs.Enter.{enter_group}
use Rattle.rule_model.specs.ChosenLines.{Adding, add_lines}
use Rattle.rule_model.specs.Tab.{tab}
use Rattle.option_store.specs.declared.options.Cell.{Cell}
use Rattle.option_store.specs.Cells.{cell_at, first_cell}
use Rattle.option_store.specs.Meaning.{option_values, option_saves}
use Rattle.event_text.specs.Boxed.{CacheValue}
use Rattle.event_text.specs.Texts.{InsertedValue}
use Rattle.rule_matching.specs.MatchState.{AreApart, MatchStateValue, AreShort, truths_at}
use Rattle.rule_engine.specs.declared.entering.Entering.{Entering}

-- an event on tables and on a borrowed text, with its state and the lines of the rules that it selected
pub record EventValue : Type 0 where
  pub tables : Tables
  pub lent : List ℕ
  pub state : EventState
  pub lines : List ℕ

-- the keyboard of an event, and what each store has in its state
abbrev pub keyboard_of : EventValue → Keyboard
keyboard_of event = tab event.tables

abbrev pub content_in : EventValue → Content
content_in event = content_now (keyboard_of event) event.state

-- the keyboard of an event in its state
abbrev pub match_state_of : EventValue → MatchStateValue
match_state_of event = record { tables = event.tables; current = event.state.current }

-- tables with the option values that cells represent
abbrev pub match_state_with : Tables → List Cell → MatchStateValue
match_state_with tables cells = record { tables = tables; current = option_values (tab tables).stores cells }

-- how an entering enters a group
abbrev pub enters : EventValue → Entering → Ref → EventState → EventState
enters event entering = enter_group entering.depth (keyboard_of event) entering.press

-- the lines that an entering adds when it enters a group
abbrev pub adds : EventValue → Entering → Adding
adds event entering = add_lines entering.depth (keyboard_of event) entering.press

-- an event notes at most one line for each group that it enters, enters at most the allowed number of groups, and has space for
-- their lines
pub record HasNoted (lines : List ℕ) (entered room : ℕ) : Type 0 where
  pub few : length lines ≤ entered
  pub allowed : entered ≤ EVENT_ENTRIES
  pub places : room ≡ EVENT_ENTRIES

-- the space of an event: for the last items, for what it inserts and for the lines that it notes
pub record HasCapacity (cache : CacheValue) (inserted : InsertedValue) (lines : ℕ) : Type 0 where
  pub items : cache.room ≡ WINDOW_ITEMS
  pub text : inserted.room ≡ EVENT_PUTS
  pub noted : lines ≡ EVENT_ENTRIES

-- the store that an item of an output sets or resets is one of the `count` stores of the file or the layer, and so is the store
-- whose value it takes
abbrev pub ChangesOwn : ℕ → Out → Type 0
ChangesOwn count (output.Set store value) = (store < count) × (value < count)
ChangesOwn count (output.SetSystem id value) = (id ≡ 33) × (value < count)
ChangesOwn count (output.Reset store) = store < count
ChangesOwn count _ = Unit {0}

-- each item of an output, of a rule, and of all that a group outputs changes such a store only
abbrev pub AllChangeOwn : ℕ → List Out → Type 0
AllChangeOwn count output = All (ChangesOwn count) output

abbrev pub RuleChangesOwn : ℕ → Rule → Type 0
RuleChangesOwn count rule = AllChangeOwn count rule.output

pub record GroupChangesOwn (count : ℕ) (group : Group) : Type 0 where
  pub rules : All (RuleChangesOwn count) group.rules
  pub on_match : AllChangeOwn count group.on_match
  pub on_nomatch : AllChangeOwn count group.on_nomatch

-- the content of the platform stays the same during an event
abbrev pub PlatformStays : Tables → Type 0
PlatformStays tables = All (GroupChangesOwn (length tables.stores)) tables.groups

-- no context has more items than are caught
abbrev pub HasShortContexts : Tables → Type 0
HasShortContexts tables = All (λ (group : Group). AreShort group.rules) tables.groups

-- no group has more records than a file may have
abbrev pub HaveFewRecords : List Group → Type 0
HaveFewRecords groups = All (λ (group : Group). length group.rules ≤ RECORDS) groups

-- for each store there is space for the position of an item in it, and for a flag
abbrev pub HasPlaces : Tables → ℕ × ℕ → Type 0
HasPlaces tables rooms = rooms ≡ (length (tab tables).stores, length (tab tables).stores)

-- each store that is not an option holds itself, with no saved value and no text of the host, and each text of the host that a cell
-- holds differs from what each store is stated with
pub record OthersHoldThemselves (tables : Tables) (cells : List Cell) : Type 0 where
  pub itself : (store : ℕ) → option_number (tab tables).stores (Numbered store) ≡ None → cell_at cells store ≡ first_cell store
  pub apart : AreApart (tab tables).stores cells

-- two lists of cells hold the same current and saved value of each option, by a store or by a text of the host
pub record HoldTheSame (stores : List StoreMeaning) (cells others : List Cell) : Type 0 where
  pub current : option_values stores cells ≡ option_values stores others
  pub saved : option_saves stores cells ≡ option_saves stores others
  pub count : length cells ≡ length others

-- the properties of an event's parts while it acts on tables: no context has more items than are caught, no output changes the
-- platform, there is a cell for each store, a store that is not an option holds itself, the truths state of each store whether the
-- platform has the words of its elements, and there is space for the positions that are found
pub record CanAct (tables : Tables) (cells : List Cell) (truths : List Bool) (rooms : ℕ × ℕ) : Type 0 where
  pub short : HasShortContexts tables
  pub platform : PlatformStays tables
  pub stores : length cells ≡ length (tab tables).stores
  pub others : OthersHoldThemselves tables cells
  pub right : truths ≡ truths_at (match_state_with tables cells)
  pub places : HasPlaces tables rooms
