-- What a plain state means, and its state after an event. The values of a plain state are indexed by store number.
use Rattle.std.specs.Prelude.{◌≡◌, ◌+◌, ℕ, ◌^◌, ◌<◌, ◌≤◌, not, is_some, if◌then◌else◌, List, [], ◌∷◌, length, take, drop, Option, Some, None, unwrap_or, slice_get, slice_set}
use Rattle.kmn_base.specs.declared.events.Event.{Event}
use Rattle.kmn_base.specs.declared.events.Event.TheVariants as event
use Rattle.kmn_base.specs.declared.events.Outcome.{Outcome}
use Rattle.kmn_base.specs.declared.items.Element.{Element}
use Rattle.kmn_base.specs.Lists.{read_again}
use Rattle.rule_model.specs.declared.event_state.EventState.{EventState}
use Rattle.rule_model.specs.declared.tables.Tables.{Tables}
use Rattle.rule_model.specs.Keyboard.{StoreMeaning}
use Rattle.rule_model.specs.Event.{State, Happening, no_outcome, happening}
use Rattle.rule_model.specs.Plain.{values_where, of_options, option_names, option_numbers}
use Rattle.rule_model.specs.Tab.{tab}
use Rattle.plain_event.specs.declared.state.PlainState.{PlainState}

-- the values of the stores that are not options
abbrev pub of_others : {X : Type 0} → List StoreMeaning → List X → List X
of_others stores values = values_where (λ store. not store.is_option) stores values

-- the state that a plain state of tables means
abbrev pub state_of : Tables → PlainState → State
state_of tables state =
    record {
      left = state.left;
      right = state.right;
      names = option_names (tab tables).stores;
      current = of_options (tab tables).stores state.current;
      saved = of_options (tab tables).stores state.saved;
    }

-- the values of the stores that are not options are unchanged, and so is the number of values
pub record KeepsOthers {X : Type 0} (stores : List StoreMeaning) (old new : List X) : Type 0 where
  pub others : of_others stores new ≡ of_others stores old
  pub count : length new ≡ length old

-- a plain state is the result of a happening on another plain state
pub record IsMadeBy (tables : Tables) (state : PlainState) (happened : Happening) (result : PlainState) : Type 0 where
  pub after : state_of tables result ≡ happened.after
  pub outcome : result.last ≡ happened.outcome
  pub current : KeepsOthers (tab tables).stores state.current result.current
  pub saved : KeepsOthers (tab tables).stores state.saved result.saved

-- a plain state is the result of an event on another plain state
abbrev pub IsPlainStep : Tables → PlainState → Event → PlainState → Type 0
IsPlainStep tables state event result = IsMadeBy tables state (happening (tab tables) (state_of tables state) event) result

-- the places of an event are within a text, in order
abbrev pub IsWithin : List ℕ → Event → Type 0
IsWithin text (event.Key press) = Unit {0}
IsWithin text (event.Setting name value) = Unit {0}
IsWithin text (event.Caret place) = place ≤ length text
IsWithin text (event.Edit from to new) = (from ≤ to) × (to ≤ length text)

-- a plain state has a current and a saved value for each store and for each of the two system options, and fewer than 2^32 items before the caret
pub record IsStateOf (tables : Tables) (state : PlainState) : Type 0 where
  pub left : length state.left < 2 ^ 32
  pub current : length state.current ≡ length tables.stores + 2
  pub saved : length state.saved ≡ length tables.stores + 2

-- the values of the stores that have an option number, from values by store number
abbrev pub picked : {X : Type 0} → List (Option ℕ) → List X → List X
picked [] values = []
picked (number ∷ numbers) [] = []
picked (number ∷ numbers) (value ∷ values) = if is_some number then value ∷ picked numbers values else picked numbers values

-- the value of an option number, or the other value if there is none
abbrev pub option_value : {X : Type 0} → List X → Option ℕ → X → X
option_value options None other = other
option_value options (Some option) other = unwrap_or (slice_get options option) other

-- values by store number, with the values of options at the stores that have an option number
abbrev pub spread : {X : Type 0} → List (Option ℕ) → List X → List X → List X
spread [] values options = []
spread (number ∷ numbers) [] options = []
spread (number ∷ numbers) (value ∷ values) options = option_value options number value ∷ spread numbers values options

-- the plain state after an event, with this outcome
abbrev pub acted : Tables → EventState → Outcome → PlainState → PlainState
acted tables s outcome state =
    let numbers = option_numbers 0 (tab tables).stores in
    record {
      left = s.left;
      right = state.right;
      current = spread numbers state.current s.current;
      saved = spread numbers state.saved s.saved;
      last = outcome;
    }

-- the plain state with a whole text and the caret at a place in it
abbrev pub with_text : List ℕ → ℕ → PlainState → PlainState
with_text text caret state =
    record state { left = read_again state.left (take caret text); right = drop caret text; last = no_outcome }

-- an option, if there is one, has a value as its current and as its saved value
abbrev pub given : Option ℕ → List Element → EventState → EventState
given None value s = s
given (Some option) value s =
    record s { current = slice_set s.current option value; saved = slice_set s.saved option (Some value) }
