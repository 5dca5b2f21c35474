-- What code on tables looks up: values, names and numbers of options, and what a context catches.
use Rattle.std.specs.Prelude.{ℕ, ◌+◌, ◌-◌, Bool, ◌&&◌, is_some, if◌then◌else◌, List, [], ◌∷◌, length, drop, map, Option, Some, None}
use Rattle.kmn_base.specs.declared.items.Item.{Item}
use Rattle.rule_model.specs.declared.event_state.Catch.{Catch}
use Rattle.rule_model.specs.declared.tables.Store.{Store}
use Rattle.rule_model.specs.Keyboard.{Pattern, StoreMeaning}
use Rattle.rule_model.specs.Match.{Content, catches_from}
use Rattle.rule_model.specs.Hold.{has_room, pattern_count}
use Rattle.rule_model.specs.Event.{has_name}
use Rattle.rule_model.specs.Trace.{options_of}

-- the values of the stores that pass a test, in order
abbrev pub values_where : {X : Type 0} → (StoreMeaning → Bool) → List StoreMeaning → List X → List X
values_where test [] values = []
values_where test (store ∷ stores) [] = []
values_where test (store ∷ stores) (value ∷ values) =
    if test store then value ∷ values_where test stores values else values_where test stores values

-- the values of the option stores
abbrev pub of_options : {X : Type 0} → List StoreMeaning → List X → List X
of_options stores values = values_where (λ store. store.is_option) stores values

-- the names of the option stores
abbrev pub option_names : List StoreMeaning → List (List ℕ)
option_names stores = map (λ (store : StoreMeaning). store.name) (options_of stores)

-- the option number of each store, counted from this number on; None for a store that is not an option
abbrev pub option_numbers : ℕ → List StoreMeaning → List (Option ℕ)
option_numbers number [] = []
option_numbers number (store ∷ stores) =
    if store.is_option then Some number ∷ option_numbers (number + 1) stores else None ∷ option_numbers number stores

-- the option number of the first store with a name and an option number
abbrev pub option_named : List ℕ → List (Option ℕ) → List Store → Option ℕ
option_named name [] stores = None
option_named name (number ∷ numbers) [] = None
option_named name (number ∷ numbers) (store ∷ stores) =
    if is_some number && has_name name store.name then number else option_named name numbers stores

-- what a context catches in the last items of a list, if the list has enough items
abbrev pub caught_last : Content → List Pattern → List Item → Option (List Catch)
caught_last content context left =
    if has_room context left then catches_from content [] context (drop (length left - pattern_count context) left) else None
