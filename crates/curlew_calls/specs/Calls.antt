-- What the calls return, and the session that each call leaves.
use Rattle.std.specs.Prelude.{◌≡◌, ℕ, Bool, true, false, nat_eq, nat_lt, if◌then◌else◌, ◌&&◌, List, [], ◌∷◌, length, Option, Some, None, is_some, unwrap_or}
use Rattle.std.specs.List.{list_any}
use Rattle.std.specs.Option.{option_or}
use Rattle.kmn_base.specs.declared.items.Element.{Element}
use Rattle.kmn_base.specs.declared.events.Event.{Event}
use Rattle.kmn_base.specs.declared.events.Event.TheVariants as event
use Rattle.kmn_base.specs.Lists.{characters}
use Rattle.virtual_keys.specs.Dictionary.{code_in}
use Rattle.virtual_keys.specs.Keys.{key_code}
use Rattle.rule_model.specs.declared.tables.Tables.{Tables}
use Rattle.rule_model.specs.Event.{State, Happening, event_refusal, has_name}
use Rattle.rule_model.specs.Tab.{tab}
use Rattle.rule_engine.specs.Engine.{name_of}
use Rattle.play_session.specs.Changes.{option_stores}
use Rattle.play_session.specs.Printed.{value_of}
use Rattle.play_session.specs.Session.{SessionState, after_step}
use Rattle.curlew_calls.specs.declared.field.Edit.{Edit}
use Rattle.curlew_calls.specs.Numbers.{bit}

-- the event of a key press
abbrev pub key : ℕ → ℕ → Event
key code mods = event.Key (record { code = code; mods = mods })

-- the meaning does not refuse an event in the state of a session
abbrev pub Happens : SessionState → Event → Type 0
Happens session event = event_refusal session.state event ≡ None

-- the result of a press: its edit of the text before the caret, whether the key is passed on to the application, the beeps, and the
-- number of option values that changed
abbrev pub edit_of : Happening → (changes : ℕ) → Edit
edit_of happening changes =
    record {
      deleted = happening.outcome.delete;
      passed = bit happening.outcome.pass;
      beeps = happening.outcome.beeps;
      inserted = length happening.inserted;
      changes = changes;
    }

-- the text on one side of the caret
abbrev pub text_at : (after : Bool) → State → List ℕ
text_at true state = state.right
text_at false state = characters state.left

-- the edit that replaces all characters before the caret with these characters
abbrev pub edit_before : List ℕ → State → Event
edit_before text state = event.Edit 0 (length (characters state.left)) text

-- the session after its field, with no character before the caret, moved to a new position. One character gets before the caret and
-- is removed from there, which leaves no mark unless the window has 64 marks: the caret moves over the character after it and back; if
-- there is none, an x is inserted, passed and deleted
abbrev pub at_new_place : SessionState → SessionState
at_new_place session =
    if nat_eq (length session.state.right) 0
    then after_step (after_step (after_step session (event.Edit 0 0 (0x78 ∷ []))) (event.Caret 1)) (event.Edit 0 1 [])
    else after_step (after_step session (event.Caret 1)) (event.Caret 0)

-- the session after the text before the caret was set. An edit at the caret leaves the caret before the new characters, so if no
-- character was before the caret, the caret moves after the new ones; if the new text is empty too, the field moves to a new position
abbrev pub with_text_before : List ℕ → SessionState → SessionState
with_text_before text session =
    if nat_lt 0 (length (characters session.state.left)) then after_step session (edit_before text session.state)
    else if nat_eq (length text) 0 then at_new_place session
    else after_step (after_step session (edit_before text session.state)) (event.Caret (length text))

-- the number of stores, including the layer and the platform
abbrev pub store_count : Tables → ℕ
store_count tables = length (tab tables).stores

-- the name of a store, None past the last store
abbrev pub store_name : Tables → ℕ → Option (List ℕ)
store_name tables store = if nat_lt store (store_count tables) then Some (name_of tables store) else None

-- the current or the saved value of a store, None past the last store and if the saved value is requested but no value is saved
abbrev pub store_value : SessionState → ℕ → (saved : Bool) → Option (List Element)
store_value session store saved = if nat_lt store (store_count session.tables) then value_of session store saved else None

-- whether a store, given its option number, is an option with a name
abbrev pub is_option_named : List ℕ → Tables → ℕ → Option ℕ → Bool
is_option_named name tables store number = is_some number && has_name name (name_of tables store)

-- whether some option of the tables has a name
abbrev pub knows_option : List ℕ → Tables → Bool
knows_option name tables = list_any (λ store. has_name name (name_of tables store)) (option_stores tables)

-- the code of a key name in a file: of a key that all keyboards have, otherwise of a key in the file's dictionary; 0 if there is none
abbrev pub own_key_code : List ℕ → Tables → ℕ
own_key_code name tables = unwrap_or (option_or (key_code name) (code_in (tab tables).dictionary name)) 0
