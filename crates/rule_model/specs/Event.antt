-- The effect of an event on a state, or why the event is refused.
use Rattle.std.specs.Prelude.{ℕ, ◌+◌, ◌-◌, Bool, false, not, ◌&&◌, ◌||◌, nat_eq, nat_lt, nat_le, if◌then◌else◌, List, [], ◌∷◌, ◌++◌, length, take, drop, map, Option, Some, None, position, slice_set, Result, Ok, Err}
use Rattle.kmn_base.specs.declared.items.Item.{Item}
use Rattle.kmn_base.specs.declared.items.Element.{Element}
use Rattle.kmn_base.specs.declared.items.Element.TheVariants as element
use Rattle.kmn_base.specs.declared.keys.KeyPress.{KeyPress}
use Rattle.kmn_base.specs.declared.events.Event.{Event}
use Rattle.kmn_base.specs.declared.events.Event.TheVariants as event
use Rattle.kmn_base.specs.declared.events.Outcome.{Outcome}
use Rattle.kmn_base.specs.declared.codes.Code.{Code}
use Rattle.kmn_base.specs.declared.codes.Code.TheVariants.{E1, E2}
use Rattle.kmn_base.specs.declared.limits.TheConstants.{TEXT_CHARS, TEXT_CHARS_AT_KEY}
use Rattle.kmn_base.specs.Lists.{characters, without_last, read_again}
use Rattle.kmn_base.specs.Names.{same_name}
use Rattle.virtual_keys.specs.declared.codes.TheConstants.{K_TAB, K_ENTER, K_END, K_HOME, K_LEFT, K_RIGHT, K_DEL}
use Rattle.virtual_keys.specs.Fits.{is_plain}
use Rattle.rule_model.specs.declared.event_state.EventState.{EventState}
use Rattle.rule_model.specs.Keyboard.{Keyboard}
use Rattle.rule_model.specs.KeyEvent.{begin_event, after_key, outcome_of, inserted}

-- a state: the left list, the text after the caret, and in order for each option store its name, its current value and its saved value
pub record State : Type 0 where
  pub left : List Item
  pub right : List ℕ
  pub names : List (List ℕ)
  pub current : List (List Element)
  pub saved : List (Option (List Element))

-- the effect of an event: its outcome, the text that a key inserted, and the state after it
pub record Happening : Type 0 where
  pub outcome : Outcome
  pub inserted : List ℕ
  pub after : State

-- the whole text, before and after the caret
abbrev pub whole_text : State → List ℕ
whole_text state = characters state.left ++ state.right

-- the outcome of an event that is not a key press
abbrev pub no_outcome : Outcome
no_outcome = record { delete = 0; pass = false; beeps = 0; entered = 0; put = 0; saved = 0 }

-- the text becomes these characters before the caret and those after it, and the left list is read again
abbrev pub text_becomes : List ℕ → List ℕ → State → State
text_becomes left right state = record state { left = read_again state.left left; right = right }

-- the text before the caret after a key that the editor handles by itself
abbrev pub editor_left : ℕ → List ℕ → List ℕ → List ℕ
editor_left code left right =
    if nat_eq code K_ENTER then left ++ 0x0A ∷ []
    else if nat_eq code K_TAB then left ++ 0x09 ∷ []
    else if nat_eq code K_LEFT then without_last 1 left
    else if nat_eq code K_RIGHT then left ++ take 1 right
    else if nat_eq code K_HOME then []
    else if nat_eq code K_END then left ++ right
    else left

-- the text after the caret after such a key
abbrev pub editor_right : ℕ → List ℕ → List ℕ → List ℕ
editor_right code left right =
    if nat_eq code K_LEFT then drop (length left - 1) left ++ right
    else if nat_eq code K_RIGHT then drop 1 right
    else if nat_eq code K_HOME then left ++ right
    else if nat_eq code K_END then []
    else if nat_eq code K_DEL then drop 1 right
    else right

-- the editor's default for a key that was passed on: it acts only without control and alt
abbrev pub by_editor : KeyPress → State → State
by_editor press state =
    let left = characters state.left in
    if is_plain press
    then text_becomes (editor_left press.code left state.right) (editor_right press.code left state.right) state
    else text_becomes left state.right state

-- the state that a press leaves
abbrev pub after_press : KeyPress → EventState → State → State
after_press press s state =
    let acted = record state { left = s.left; current = s.current; saved = s.saved } in
    if s.pass then by_editor press acted else acted

-- the effect of a press
abbrev pub happening_of : KeyPress → EventState → State → Happening
happening_of press s state =
    record { outcome = outcome_of state.left s; inserted = inserted state.left s.left; after = after_press press s state }

abbrev pub key_event : Keyboard → KeyPress → State → Happening
key_event kb press state = happening_of press (after_key kb press (begin_event state.left state.current state.saved)) state

-- the effect of an event that is not a key press
abbrev pub only_state : State → Happening
only_state state = record { outcome = no_outcome; inserted = []; after = state }

-- whether an option has a name: the first option that has it is found; a store without a name is never found
abbrev pub has_name : List ℕ → List ℕ → Bool
has_name name other = not (nat_eq (length other) 0) && same_name other name

-- the host sets an option to a value, as its current and its saved value
abbrev pub set_option : Option ℕ → List Element → State → State
set_option None value state = state
set_option (Some option) value state =
    record state { current = slice_set state.current option value; saved = slice_set state.saved option (Some value) }

abbrev pub setting_event : List ℕ → List ℕ → State → State
setting_event name value state = set_option (position (has_name name) state.names) (map element.Char value) state

-- the caret moves to a position of the whole text
abbrev pub caret_event : ℕ → State → State
caret_event place state = text_becomes (take place (whole_text state)) (drop place (whole_text state)) state

-- the position of the caret after the characters between two positions were replaced by `count` characters
abbrev pub moved_caret : ℕ → ℕ → ℕ → ℕ → ℕ
moved_caret from to count caret =
    if nat_le caret from then caret
    else if nat_lt caret to then from + count
    else caret - to + from + count

-- the whole text after an edit
abbrev pub edited_text : ℕ → ℕ → List ℕ → List ℕ → List ℕ
edited_text from to text whole = take from whole ++ text ++ drop to whole

abbrev pub edit_event : ℕ → ℕ → List ℕ → State → State
edit_event from to text state =
    let whole = edited_text from to text (whole_text state) in
    let caret = moved_caret from to (length text) (length (characters state.left)) in
    text_becomes (take caret whole) (drop caret whole) state

-- why an event is refused: E1 for a position past the text, E2 for a text that is or would be too long
abbrev pub edit_refusal : ℕ → ℕ → ℕ → ℕ → Option Code
edit_refusal from to count whole =
    if nat_lt to from || nat_lt whole to then Some E1
    else if nat_lt TEXT_CHARS (whole - (to - from) + count) then Some E2
    else None

abbrev pub event_refusal : State → Event → Option Code
event_refusal state (event.Key press) = if nat_lt TEXT_CHARS_AT_KEY (length (whole_text state)) then Some E2 else None
event_refusal state (event.Setting name value) = None
event_refusal state (event.Caret place) = if nat_lt (length (whole_text state)) place then Some E1 else None
event_refusal state (event.Edit from to text) = edit_refusal from to (length text) (length (whole_text state))

-- the effect of an event that is not refused
unfoldable pub happening : Keyboard → State → Event → Happening
happening kb state (event.Key press) = key_event kb press state
happening kb state (event.Setting name value) = only_state (setting_event name value state)
happening kb state (event.Caret place) = only_state (caret_event place state)
happening kb state (event.Edit from to text) = only_state (edit_event from to text state)

abbrev pub unless_refused : Option Code → Happening → Result Happening Code
unless_refused None done = Ok done
unless_refused (Some code) done = Err code

-- the effect of an event, or its refusal
abbrev pub event_of : Keyboard → State → Event → Result Happening Code
event_of kb state event = unless_refused (event_refusal state event) (happening kb state event)
