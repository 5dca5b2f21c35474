-- A keyboard of which nothing is reported types the same texts in Keyman's own engine and in this product.
use Rattle.std.specs.Prelude.{◌≡◌, ℕ, Bool, true, false, ◌&&◌, ◌||◌, nat_eq, nat_lt, List, [], ◌∷◌, length, map, slice_get, Option, Some, None}
use Rattle.std.specs.List.{All, list_any}
use Rattle.kmn_base.specs.declared.items.Item.TheVariants as item
use Rattle.kmn_base.specs.declared.keys.KeyPress.{KeyPress}
use Rattle.kmn_base.specs.Lists.{characters}
use Rattle.kmn_base.specs.Rising.{is_among}
use Rattle.rule_model.specs.declared.event_state.EventState.{EventState}
use Rattle.rule_model.specs.declared.tables.Out.{Out}
use Rattle.rule_model.specs.declared.tables.Out.TheVariants as output
use Rattle.rule_model.specs.declared.tables.Group.{Group}
use Rattle.rule_model.specs.declared.tables.Store.{Store}
use Rattle.rule_model.specs.declared.tables.Tables.{Tables}
use Rattle.rule_model.specs.Keyboard.{Keyboard}
use Rattle.rule_model.specs.KeyEvent.{begin_event, after_key}
use Rattle.rule_model.specs.Tab.{tab}
use Rattle.rule_model.specs.Trace.{first_state}
use Rattle.kmx_format.specs.Playable.{IsPlayable}
use Rattle.core_meaning.specs.Events.{CoreVersion}
use Rattle.core_meaning.specs.Laws.{IsCommonPress}
use Rattle.core_meaning.specs.Steps.{core_texts}
use Rattle.core_constructs.specs.declared.construct.Construct.{Construct}
use Rattle.core_constructs.specs.declared.construct.GroupConstruct.{GroupConstruct}
use Rattle.core_constructs.specs.declared.construct.FileConstruct.TheVariants as file_construct
use Rattle.core_constructs.specs.declared.facts.Facts.{Facts}
use Rattle.core_constructs.specs.declared.facts.GroupFacts.{GroupFacts}
use Rattle.core_constructs.specs.Facts.{facts_of}
use Rattle.core_constructs.specs.Marks.{live_items}
use Rattle.core_constructs.specs.Outputs.{live, sets_from_option}
use Rattle.core_constructs.specs.Records.{is_told}
use Rattle.core_constructs.specs.Spent.{spent_in}
use Rattle.core_constructs.specs.Told.{file_has, group_has, known_of, told}

-- ---- the texts that this product types

abbrev pub shown_after : (EventState → List (List ℕ × Bool)) → EventState → List (List ℕ × Bool)
shown_after rest s = (characters s.left, s.pass) ∷ rest s

-- the text before the caret after each press from a state on, and whether the press is passed on; as in `core_texts`, what an application
-- does with such a press is left out
abbrev pub own_texts_from : Keyboard → List KeyPress → EventState → List (List ℕ × Bool)
own_texts_from kb [] s = []
own_texts_from kb (press ∷ presses) s = shown_after (own_texts_from kb presses) (after_key kb press (begin_event s.left s.current s.saved))

-- the state at first: some characters before the caret, each option with its elements, and nothing saved
abbrev pub own_first : Keyboard → List ℕ → EventState
own_first kb text = begin_event (map item.Char text) (first_state kb).current (first_state kb).saved

-- the text before the caret after each press, from a first text on, and whether the press is passed on
unfoldable pub own_texts : Keyboard → List ℕ → List KeyPress → List (List ℕ × Bool)
own_texts kb text presses = own_texts_from kb presses (own_first kb text)

-- both engines type the same texts, in each version, for each first value of the flag that output has ended, from each first text on, for
-- presses that don't hold both sides of control or of alt and aren't keys of the keypad
abbrev pub TypesAlike : Tables → Type 0
TypesAlike tables =
    (version : CoreVersion) (ended : Bool) (text : List ℕ) (presses : List KeyPress) → All IsCommonPress presses
    → core_texts version tables ended text presses ≡ own_texts (tab tables) text presses

-- ---- what is not reported, and differs

abbrev pub is_nameless : Option Store → Bool
is_nameless None = false
is_nameless (Some store) = nat_eq (length store.name) 0

-- whether an item saves a store without a name, which that engine never saves
abbrev pub saves_nameless : List Store → Out → Bool
saves_nameless stores (output.Save store) = is_nameless (slice_get stores store)
saves_nameless stores _ = false

-- whether a match or nomatch output sets an option to the value of a store that is an option itself. This is reported of records only
abbrev pub sets_value_alone : Facts → Group → Bool
sets_value_alone facts group = list_any (sets_from_option facts.options) (live group.on_match) || list_any (sets_from_option facts.options) (live group.on_nomatch)

-- whether a group uses keys, and the window may have lost more units than leave it a character for K_BKSP
abbrev pub misses_character : GroupFacts → Group → Bool
misses_character known group = group.using_keys && nat_lt 61 known.spent

-- a group that an event can enter, with its number and what is known of it
abbrev pub Reached : Tables → ℕ → Group → Type 0
Reached tables number group = (is_among number (facts_of tables).reached ≡ true) × (slice_get tables.groups number ≡ Some group)

abbrev pub known_at : Tables → ℕ → Group → GroupFacts
known_at tables number group = known_of (spent_in (facts_of tables) tables.groups) number group

-- a keyboard has none of three things that differ and are not reported
pub record IsPlain (tables : Tables) : Type 0 where
  pub named : list_any (saves_nameless tables.stores) (live_items tables) ≡ false
  pub values : (number : ℕ) (group : Group) → Reached tables number group → sets_value_alone (facts_of tables) group ≡ false
  pub characters : (number : ℕ) (group : Group) → Reached tables number group → misses_character (known_at tables number group) group ≡ false

-- ---- the laws

-- nothing is reported of a record, or of a group that an event can enter, or of the file in its header, except for caps lock and keys with both sides
pub record IsFair (tables : Tables) : Type 0 where
  pub rules : (number : ℕ) (group : Group) → Reached tables number group → (construct : Construct) → list_any (is_told construct tables (facts_of tables) (known_at tables number group) group) group.rules ≡ false
  pub groups : (number : ℕ) (group : Group) → Reached tables number group → (construct : GroupConstruct) → group_has (facts_of tables) group construct ≡ false
  pub marks : (facts_of tables).marks ≡ []
  pub own : file_has 0 tables (facts_of tables) file_construct.Own ≡ false
  pub budget : file_has 0 tables (facts_of tables) file_construct.Budget ≡ false
  pub names : file_has 0 tables (facts_of tables) file_construct.Names ≡ false

-- such a keyboard types the same in both engines
abbrev pub FairKeyboardsTypeAlike : Type 0
FairKeyboardsTypeAlike = (tables : Tables) → IsPlayable tables → IsFair tables → IsPlain tables → TypesAlike tables

-- nothing is reported of a keyboard: no line, no group, and nothing for the file
pub record IsUntold (flags : ℕ) (tables : Tables) : Type 0 where
  pub lines : (told flags tables).lines ≡ []
  pub groups : (told flags tables).groups ≡ []
  pub file : (told flags tables).file ≡ []

-- a keyboard of which nothing is reported types the same in both engines
abbrev pub UntoldKeyboardsTypeAlike : Type 0
UntoldKeyboardsTypeAlike = (flags : ℕ) (tables : Tables) → IsPlayable tables → IsUntold flags tables → IsPlain tables → TypesAlike tables
