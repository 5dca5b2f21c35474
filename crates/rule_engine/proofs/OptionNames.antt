-- The option with a name, store by store.
use Rattle.std.proofs.Common.{◌≡◌, ℕ, zero, suc, ◌+◌, ◌<◌, ◌≤◌, get_or, Bool, true, false, List, [], ◌∷◌, length, drop, Option, Some, None, refl, sym, ◌∙◌, ap, arith}
use Rattle.std.specs.Prelude.{◌&&◌, if◌then◌else◌, is_some, option_map, map, position, slice_get}
use Rattle.std.proofs.lemmas.List.{drop_all, drop_more}
use Rattle.rule_model.specs.declared.tables.Tables.{Tables}
use Rattle.rule_model.specs.Content.{option_number}
use Rattle.rule_model.specs.Event.{has_name}
use Rattle.rule_model.specs.Keyboard.{Numbered, StoreMeaning}
use Rattle.rule_model.specs.Plain.{option_names, option_numbers}
use Rattle.rule_model.specs.Tab.{tab}
use Rattle.rule_model.specs.Trace.{options_of}
use Rattle.rule_model.proofs.PlainOptions.{length-option_numbers, named_here as first_place, number_found, same_number}
use Rattle.rule_engine.specs.Engine.{name_in, name_of}
use Rattle.rule_engine.proofs.Engines.{number_there}

-- the option number of the first store that has a name and an option number
abbrev pub named_in : List ℕ → List (Option ℕ) → List StoreMeaning → Option ℕ
named_in name [] stores = None
named_in name (number ∷ numbers) [] = None
named_in name (number ∷ numbers) (store ∷ stores) = if is_some number && has_name name store.name then number else named_in name numbers stores

-- this option number is the place of the first option with the name
module _ (name : List ℕ) where
  named_place : (k : ℕ) (stores : List StoreMeaning) → named_in name (option_numbers k stores) stores ≡ option_map (λ i. k + i) (position (has_name name) (option_names stores))
  named_place k [] = refl
  named_place k (s ∷ ss) = by s.is_option
      (first_place (has_name name) k s.name (option_names ss) (has_name name s.name) (named_in name (option_numbers (k + 1) ss) ss) refl (named_place (k + 1) ss)) (named_place k ss)
    where
      by : (b : Bool)
          → (if has_name name s.name then Some k else named_in name (option_numbers (k + 1) ss) ss) ≡ option_map (λ i. k + i) (position (has_name name) (s.name ∷ option_names ss))
          → named_in name (option_numbers k ss) ss ≡ option_map (λ i. k + i) (position (has_name name) (option_names ss))
          → named_in name (if b then Some k ∷ option_numbers (k + 1) ss else None ∷ option_numbers k ss) (s ∷ ss)
          ≡ option_map (λ i. k + i) (position (has_name name) (map (λ (store : StoreMeaning). store.name) (if b then s ∷ options_of ss else options_of ss)))
      by true here behind = here
      by false here behind = behind

-- if a number is below the count of stores, it has a store
there : (stores : List StoreMeaning) (n : ℕ) → n < length stores → (store : StoreMeaning) × (slice_get stores n ≡ Some store) × (store ≡ get_or stores n store)
there [] n within = absurd (omega arith)
there (store ∷ stores) zero within = (store, refl, refl)
there (store ∷ stores) (suc n) within = there stores n (omega arith)

first_true : (a b : Bool) → (a && b) ≡ true → a ≡ true
first_true true b is = refl
first_true false b is = is

-- the option with a name among the stores from a number on
abbrev pub named_from : Tables → List ℕ → ℕ → Option ℕ
named_from tables name n = named_in name (drop n (option_numbers 0 (tab tables).stores)) (drop n (tab tables).stores)

module _ (tables : Tables) (name : List ℕ) where
  abbrev stores : List StoreMeaning
  stores = (tab tables).stores

  abbrev numbers : List (Option ℕ)
  numbers = option_numbers 0 (tab tables).stores

  -- the option with a name among all stores is the first option with this name
  pub named_of_all : named_from tables name 0 ≡ position (has_name name) (option_names (tab tables).stores)
  named_of_all = named_place name 0 stores ∙ same_number (position (has_name name) (option_names stores))

  module _ (n : ℕ) where
    abbrev number : Option ℕ
    number = option_number (tab tables).stores (Numbered n)

    abbrev is_named : Option StoreMeaning → Bool
    is_named store = is_some number && has_name name (name_in store)

    step : n < length (tab tables).stores
        → named_from tables name n ≡ (if is_named (slice_get (tab tables).stores n) then number else named_from tables name (n + 1))
    step within =
        let found = there stores n within in
        let count : length numbers ≡ length stores = length-option_numbers 0 stores in
        let here : n < length numbers = omega (arith, within, count) in
        let is_number : get_or numbers n None ≡ number = sym (number_there numbers n None here) ∙ number_found stores n in
        let first : drop n numbers ≡ number ∷ drop (n + 1) numbers
        = drop_more numbers n None here ∙ ap (λ (o : Option ℕ). o ∷ drop (n + 1) numbers) is_number in
        let store : drop n stores ≡ found.0 ∷ drop (n + 1) stores
        = drop_more stores n found.0 within ∙ ap (λ (s : StoreMeaning). s ∷ drop (n + 1) stores) (sym found.2) in
        (λ i. named_in name (first i) (store i))
        ∙ ap (λ (s : Option StoreMeaning). if is_named s then number else named_from tables name (n + 1)) (sym found.1)

    -- if a store is an option with the name, it is the first one from its number on
    pub named_here : n < length (tab tables).stores
        → (is_some (option_number (tab tables).stores (Numbered n)) && has_name name (name_of tables n)) ≡ true
        → named_from tables name n ≡ option_number (tab tables).stores (Numbered n)
    named_here within is = step within ∙ ap (λ b. if b then number else named_from tables name (n + 1)) is

    pub named_is_some : (is_some (option_number (tab tables).stores (Numbered n)) && has_name name (name_of tables n)) ≡ true
        → is_some (option_number (tab tables).stores (Numbered n)) ≡ true
    named_is_some is = first_true (is_some number) (has_name name (name_of tables n)) is

    -- if a store is not an option with the name, the first one is after it
    pub passed_here : n < length (tab tables).stores
        → (is_some (option_number (tab tables).stores (Numbered n)) && has_name name (name_of tables n)) ≡ false
        → named_from tables name n ≡ named_from tables name (n + 1)
    passed_here within is = step within ∙ ap (λ b. if b then number else named_from tables name (n + 1)) is

    -- after the last store, there is no option with the name
    pub none_named : length (tab tables).stores ≤ n → named_from tables name n ≡ None
    none_named past =
        let count : length numbers ≡ length stores = length-option_numbers 0 stores in
        ap (λ (these : List (Option ℕ)). named_in name these (drop n stores)) (drop_all n numbers (omega (arith, past, count)))
