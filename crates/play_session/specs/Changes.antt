-- The option values that an event changes, by store number.
use Rattle.std.specs.Prelude.{ℕ, ◌+◌, Bool, true, false, not, if◌then◌else◌, List, [], ◌∷◌, ◌++◌, Option, Some, None, is_some, slice_get, unwrap_or, nat_eq}
use Rattle.std.specs.Option.{option_flatten}
use Rattle.kmn_base.specs.declared.items.Element.{Element}
use Rattle.rule_model.specs.declared.tables.Tables.{Tables}
use Rattle.rule_model.specs.Match.{same_value}
use Rattle.rule_model.specs.Plain.{option_numbers}
use Rattle.rule_model.specs.Tab.{tab}
use Rattle.rule_model.specs.Keyboard.{stated}
use Rattle.option_store.specs.declared.options.Cell.{Cell}
use Rattle.option_store.specs.declared.options.Held.{Held}
use Rattle.option_store.specs.declared.options.Held.TheVariants.{Store}
use Rattle.option_store.specs.Cells.{current_values, saved_values}
use Rattle.rule_engine.specs.Engine.{EngineState}
use Rattle.play_session.specs.declared.changes.Change.{Change}

-- the current value of each option, and its saved value if any, by option number
pub record Values : Type 0 where
  pub current : List (List Element)
  pub saved : List (Option (List Element))

-- the stores from this number on that are options, given their option numbers
abbrev pub options_from : ℕ → List (Option ℕ) → List ℕ
options_from store [] = []
options_from store (number ∷ numbers) =
    if is_some number then store ∷ options_from (store + 1) numbers else options_from (store + 1) numbers

-- the stores of tables that are options
abbrev pub option_stores : Tables → List ℕ
option_stores tables = options_from 0 (option_numbers 0 (tab tables).stores)

-- the values that the cells of the options of tables denote, in order, and the values of an engine
abbrev pub values_in : Tables → List Cell → Values
values_in tables cells =
    record { current = current_values (stated (tab tables).stores) cells; saved = saved_values (stated (tab tables).stores) cells }

abbrev pub values_now : EngineState → Values
values_now engine = record { current = engine.current; saved = engine.saved }

-- the current value of an option, or an empty value if there is no such option
abbrev pub current_at : Values → ℕ → List Element
current_at values option = unwrap_or (slice_get values.current option) []

-- the saved value of an option, if any
abbrev pub saved_at : Values → ℕ → Option (List Element)
saved_at values option = option_flatten (slice_get values.saved option)

-- whether two values are held as the elements of the same store of the file, so that they are equal
abbrev pub are_of_one_store : Held → Held → Bool
are_of_one_store (Store a) (Store b) = nat_eq a b
are_of_one_store _ _ = false

-- whether a value is saved now that was not saved before
abbrev pub is_newly_saved : Option (List Element) → Option (List Element) → Bool
is_newly_saved before None = false
is_newly_saved None (Some after) = true
is_newly_saved (Some before) (Some after) = not (same_value before after)

-- the change of the current value of an option, and of its saved value, given the store and the option number
abbrev pub current_change : Values → Values → ℕ → ℕ → List Change
current_change before after store option =
    if same_value (current_at before option) (current_at after option) then [] else record { store = store; saved = false } ∷ []

abbrev pub saved_change : Values → Values → ℕ → ℕ → List Change
saved_change before after store option =
    if is_newly_saved (saved_at before option) (saved_at after option) then record { store = store; saved = true } ∷ [] else []

-- the changes of a store, given its option number; a store that is not an option has no value that can change
abbrev pub store_changes : Values → Values → ℕ → Option ℕ → List Change
store_changes before after store None = []
store_changes before after store (Some option) = current_change before after store option ++ saved_change before after store option

-- the changes of the stores from this number on, given their option numbers
abbrev pub changes_from : Values → Values → ℕ → List (Option ℕ) → List Change
changes_from before after store [] = []
changes_from before after store (number ∷ numbers) = store_changes before after store number ++ changes_from before after (store + 1) numbers

-- the changes of all stores of tables
abbrev pub changes_between : Tables → Values → Values → List Change
changes_between tables before after = changes_from before after 0 (option_numbers 0 (tab tables).stores)
