-- How Keyman's own engine saves and resets options.
use Rattle.std.specs.Prelude.{ℕ, ◌+◌, Bool, not, ◌&&◌, nat_eq, if◌then◌else◌, List, [], ◌∷◌, ◌++◌, length, slice_get, slice_set, unwrap_or, option_and_then, Option, Some, None}
use Rattle.std.specs.Option.{option_map_or}
use Rattle.std.specs.Str.{bytes_eq}
use Rattle.kmn_base.specs.declared.items.Element.{Element}
use Rattle.rule_model.specs.declared.event_state.EventState.{EventState}
use Rattle.rule_model.specs.Keyboard.{StoreMeaning, Numbered}
use Rattle.rule_model.specs.Content.{option_number}
use Rattle.rule_model.specs.Act.{one_more, set_current, value_to_reset}
use Rattle.rule_model.specs.Tab.{elements_of}
use Rattle.core_meaning.specs.Events.{CoreKeyboard, CoreEvent, core_queue}

abbrev pub name_at : List StoreMeaning → ℕ → List ℕ
name_at stores n = option_map_or (λ (store : StoreMeaning). store.name) (slice_get stores n) []

-- whether the store of a number has a name
abbrev pub is_named : List StoreMeaning → ℕ → Bool
is_named stores n = not (nat_eq (length (name_at stores n)) 0)

-- the last option of a name among stores, the first of which has this number; else the one that was found before
abbrev pub last_option_named : List ℕ → ℕ → List StoreMeaning → ℕ → ℕ
last_option_named name n [] found = found
last_option_named name n (store ∷ stores) found =
    last_option_named name (n + 1) stores (if store.is_option && not store.is_system && bytes_eq store.name name then n else found)

-- the store under which a store is saved: options of one name have one saved value, and its first one is that of the last of them
abbrev pub saved_under : List StoreMeaning → ℕ → ℕ
saved_under stores n = if is_named stores n then last_option_named (name_at stores n) 0 stores n else n

-- the value of one option becomes the saved value of another
abbrev pub save_as : Option ℕ → Option ℕ → EventState → EventState
save_as None under s = s
save_as (Some option) None s = s
save_as (Some option) (Some under) s =
    record s { saved = slice_set s.saved under (Some (unwrap_or (slice_get s.current option) [])); saves = one_more s.saves }

-- stores are saved, each with the value that it has now
abbrev pub core_save_all : List StoreMeaning → List ℕ → EventState → EventState
core_save_all stores [] s = s
core_save_all stores (n ∷ others) s =
    core_save_all stores others (save_as (option_number stores (Numbered n)) (option_number stores (Numbered (saved_under stores n))) s)

-- a store is noted to be saved at the end of the event; one without a name never is
abbrev pub note_save : List StoreMeaning → ℕ → CoreEvent → CoreEvent
note_save stores n c = (if is_named stores n then core_queue (λ c. record c { to_save = c.to_save ++ n ∷ [] }) else (λ c. c)) c

-- the saved value of a store, or the elements that the file has
abbrev pub saved_value : CoreKeyboard → ℕ → EventState → List Element
saved_value kb n s =
    value_to_reset (option_and_then (slice_get s.saved) (option_number kb.stores (Numbered n))) (elements_of kb.tables.stores n)

-- a store gets its saved value
abbrev pub core_reset : CoreKeyboard → ℕ → EventState → EventState
core_reset kb n s = set_current (option_number kb.stores (Numbered n)) (saved_value kb (saved_under kb.stores n) s) s
