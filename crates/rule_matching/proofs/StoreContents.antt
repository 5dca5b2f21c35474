-- The content of a store, from what is held for it.
use Rattle.std.proofs.Common.{◌≡◌, ℕ, zero, suc, ◌-◌, ◌<◌, ◌≤◌, List, [], ◌∷◌, length, map, Bool, true, Option, Some, None, refl, sym, ◌∙◌, ap, arith}
use Rattle.std.specs.Prelude.{slice_get, is_some, unwrap_or, option_map, option_and_then}
use Rattle.std.specs.Option.{option_flatten}
use Rattle.kmn_base.specs.declared.items.Element.{Element}
use Rattle.rule_model.specs.declared.tables.Store as tables
use Rattle.rule_model.specs.declared.tables.Tables.{Tables}
use Rattle.rule_model.specs.Content.{content, option_number, option_of, options_before, elements_at}
use Rattle.rule_model.specs.Keyboard.{Numbered, StoreMeaning, stated}
use Rattle.rule_model.specs.Tab.{tab, tab_options, elements_of}
use Rattle.rule_model.proofs.PlainOptions.{content_of_option, content_of_other}
use Rattle.rule_model.proofs.SystemOptions.{own_elements}
use Rattle.option_store.specs.declared.options.Cell.{Cell}
use Rattle.option_store.specs.declared.options.Held.TheVariants.{Store}
use Rattle.option_store.specs.Cells.{cell_at, held_value}
use Rattle.option_store.specs.Meaning.{option_values, option_saves}
use Rattle.option_store.proofs.Meaning.{stated_at, option_value_found, option_save_found}
use Rattle.rule_index.proofs.StoreIndexes.{count_of_all}
use Rattle.rule_matching.specs.MatchState.{saved_of}

-- the elements of a store of the tables are the elements that it is defined with
pub elements_meant : (tables : Tables) (n : ℕ) → n < length tables.stores → elements_at (tab tables).stores (Some n) ≡ elements_of tables.stores n
unfolding tab
elements_meant tables n below = own_elements (tab_options tables) 0 n tables.stores below

pub elements_held : (tables : Tables) (text : List ℕ) (n : ℕ) → elements_at (tab tables).stores (Some n) ≡ held_value (stated (tab tables).stores) text (Store n)
elements_held tables text n = sym (stated_at (tab tables).stores n)

no_own : (stores : List tables.Store) (n : ℕ) → length stores ≤ n → elements_of stores n ≡ []
no_own [] n behind = refl
no_own (s ∷ ss) zero behind = absurd (omega arith)
no_own (s ∷ ss) (suc n) behind = no_own ss n (omega arith)

none_stated : (stores : List StoreMeaning) → elements_at stores (Some (length stores)) ≡ []
none_stated [] = refl
none_stated (s ∷ ss) = none_stated ss

-- if a number is below the layer, its store has the elements of the value store; if it is not, both the value store and the number after
-- the last store have no elements
pub own_value : (tables : Tables) (value layer : ℕ) → layer ≡ length (tab tables).stores - 2 → value < layer
    → elements_at (tab tables).stores (Some value) ≡ elements_of tables.stores value
own_value tables value layer is below = elements_meant tables value (omega (arith, is, below, count_of_all tables))

pub no_value : (tables : Tables) (value layer count : ℕ) → layer ≡ length (tab tables).stores - 2 → layer ≤ value → count ≡ length (tab tables).stores
    → elements_at (tab tables).stores (Some count) ≡ elements_of tables.stores value
no_value tables value layer count is behind counted =
    ap (λ (n : ℕ). elements_at (tab tables).stores (Some n)) counted
    ∙ none_stated (tab tables).stores
    ∙ sym (no_own tables.stores value (omega (arith, is, behind, count_of_all tables)))

-- if a test is computed for each store, its result at a number is the test of the elements of that store; if there is no result, the store
-- has no elements
pub told_of : (tell : List Element → Bool) (stores : List StoreMeaning) (n : ℕ) (is : Bool)
    → slice_get (map (λ (s : StoreMeaning). tell s.elements) stores) n ≡ Some is → is ≡ tell (elements_at stores (Some n))
told_of tell [] n is found = absurd (cc)
told_of tell (s ∷ ss) zero is found = let same : tell s.elements ≡ is = cc in sym same
told_of tell (s ∷ ss) (suc n) is found = told_of tell ss n is found

pub untold : (tell : List Element → Bool) (stores : List StoreMeaning) (n : ℕ)
    → slice_get (map (λ (s : StoreMeaning). tell s.elements) stores) n ≡ None → elements_at stores (Some n) ≡ []
untold tell [] n none = refl
untold tell (s ∷ ss) zero none = absurd (cc)
untold tell (s ∷ ss) (suc n) none = untold tell ss n none

-- if a store has an option number, it is one of the stores
within : (stores : List StoreMeaning) (k n option : ℕ) → option_of k (slice_get stores n) ≡ Some option → n < length stores
within [] k n option is = absurd (cc)
within (s ∷ ss) k zero option is = omega arith
within (s ∷ ss) k (suc n) option is = let h = within ss k n option is in omega arith

pub option_within : (tables : Tables) (n option : ℕ) → option_number (tab tables).stores (Numbered n) ≡ Some option → n < length (tab tables).stores
option_within tables n option is = within (tab tables).stores (options_before n (tab tables).stores) n option is

some_within : (stores : List StoreMeaning) (k n : ℕ) → is_some (option_of k (slice_get stores n)) ≡ true → n < length stores
some_within [] k n is = absurd (cc)
some_within (s ∷ ss) k zero is = omega arith
some_within (s ∷ ss) k (suc n) is = let h = some_within ss k n is in omega arith

pub is_option_within : (tables : Tables) (n : ℕ) → is_some (option_number (tab tables).stores (Numbered n)) ≡ true → n < length (tab tables).stores
is_option_within tables n is = some_within (tab tables).stores (options_before n (tab tables).stores) n is

module _ (tables : Tables) (cells : List Cell) (n : ℕ) where
  abbrev stores : List StoreMeaning
  stores = (tab tables).stores

  -- if a store is an option, its content is its current value
  pub current_is_content : (option : ℕ) → n < length cells → option_number (tab tables).stores (Numbered n) ≡ Some option
      → held_value (stated (tab tables).stores) (cell_at cells n).text (cell_at cells n).current
      ≡ content (tab tables).stores (option_values (tab tables).stores cells) (Numbered n)
  current_is_content option few is =
      let found = option_value_found stores cells n few option is in
      sym (content_of_option (option_values stores cells) (options_before n stores) option (slice_get stores n) is
      ∙ ap (λ (value : Option (List Element)). unwrap_or value []) found)

  -- if a store is not an option, its content is its own elements
  pub itself_is_content : option_number (tab tables).stores (Numbered n) ≡ None
      → held_value (stated (tab tables).stores) (cell_at cells n).text (Store n)
      ≡ content (tab tables).stores (option_values (tab tables).stores cells) (Numbered n)
  itself_is_content none =
      sym (elements_held tables (cell_at cells n).text n)
      ∙ sym (content_of_other (option_values stores cells) (options_before n stores) (slice_get stores n) none)

  -- if a store is an option, its saved value is the saved value of its cell
  pub saved_is_of : (option : ℕ) → n < length cells → option_number (tab tables).stores (Numbered n) ≡ Some option
      → option_map (held_value (stated (tab tables).stores) (cell_at cells n).text) (cell_at cells n).saved
      ≡ saved_of (tab tables).stores (option_saves (tab tables).stores cells) n
  saved_is_of option few is =
      let saves : List (Option (List Element)) = option_saves stores cells in
      let found = option_save_found stores cells n few option is in
      sym (ap (option_and_then (λ (o : ℕ). option_flatten (slice_get saves o))) is ∙ ap (λ (value : Option (Option (List Element))). option_flatten value) found)

  -- if a store is not an option, it has no saved value
  pub unsaved_is_of : option_number (tab tables).stores (Numbered n) ≡ None
      → None ≡ saved_of (tab tables).stores (option_saves (tab tables).stores cells) n
  unsaved_is_of none =
      let saves : List (Option (List Element)) = option_saves stores cells in
      sym (ap (option_and_then (λ (o : ℕ). option_flatten (slice_get saves o))) none)
