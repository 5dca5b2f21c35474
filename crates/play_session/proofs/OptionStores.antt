-- The stores that are options: their numbers, the values that their cells denote, and their changes.
use Rattle.std.proofs.Common.{◌≡◌, ℕ, zero, suc, ◌+◌, ◌<◌, Bool, true, false, if◌then◌else◌, List, [], ◌∷◌, ◌++◌, length, get_or, map, Option, Some, None, refl, sym, ap, subst, ◌∙◌, arith}
use Rattle.std.specs.Prelude.{slice_get, unwrap_or}
use Rattle.std.specs.Option.{option_flatten}
use Rattle.rule_model.specs.declared.tables.Tables.{Tables}
use Rattle.rule_model.specs.Content.{option_number}
use Rattle.rule_model.specs.Keyboard.{Numbered, StoreMeaning, stated}
use Rattle.rule_model.specs.Plain.{of_options, option_numbers}
use Rattle.rule_model.specs.Tab.{tab}
use Rattle.rule_model.proofs.PlainOptions.{number_found, length-option_numbers}
use Rattle.rule_matching.proofs.StoreContents as contents
use Rattle.option_store.specs.declared.options.Cell.{Cell}
use Rattle.option_store.specs.Cells.{first_cell, cell_at, current_value, saved_value}
use Rattle.option_store.specs.Meaning.{option_values, option_saves}
use Rattle.rule_engine.specs.Engine.{EngineState}
use Rattle.play_session.specs.declared.changes.Change.{Change}
use Rattle.play_session.specs.Changes.{Values, options_from, option_stores, values_in, values_now, current_change, saved_change, changes_from, changes_between}

pub count_of_numbers : (tables : Tables) → length (option_numbers 0 (tab tables).stores) ≡ length (tab tables).stores
count_of_numbers tables = length-option_numbers 0 (tab tables).stores

-- ---- their option numbers

module _ (all : List StoreMeaning) where
  -- the stores from a number on have these option numbers
  abbrev IsLeft : ℕ → List (Option ℕ) → Type 0
  IsLeft n numbers = (i : ℕ) → option_number all (Numbered (n + i)) ≡ option_flatten (slice_get numbers i)

  left_behind : (n : ℕ) (number : Option ℕ) (numbers : List (Option ℕ)) → IsLeft n (number ∷ numbers) → IsLeft (n + 1) numbers
  left_behind n number numbers left i =
      let next : n + 1 + i ≡ n + suc i = omega arith in
      ap (λ m. option_number all (Numbered m)) next ∙ left (suc i)

  -- the options of these numbers have the option numbers from k on
  abbrev AreNumbered : ℕ → ℕ → List (Option ℕ) → Type 0
  AreNumbered n k numbers = (o d : ℕ) → o < length (options_from n numbers) → option_number all (Numbered (get_or (options_from n numbers) o d)) ≡ Some (k + o)

  store_numbered : (n k : ℕ) (is_option : Bool) (rest : List StoreMeaning)
      → ((m : ℕ) → IsLeft (n + 1) (option_numbers m rest) → AreNumbered (n + 1) m (option_numbers m rest))
      → IsLeft n (if is_option then Some k ∷ option_numbers (k + 1) rest else None ∷ option_numbers k rest)
      → AreNumbered n k (if is_option then Some k ∷ option_numbers (k + 1) rest else None ∷ option_numbers k rest)
  store_numbered n k true rest behind left zero d within =
      let here : n ≡ n + 0 = omega arith in
      let first : k ≡ k + 0 = omega arith in
      ap (λ m. option_number all (Numbered m)) here ∙ left 0 ∙ ap Some first
  store_numbered n k true rest behind left (suc o) d within =
      let next : k + 1 + o ≡ k + suc o = omega arith in
      behind (k + 1) (left_behind n (Some k) (option_numbers (k + 1) rest) left) o d (omega arith) ∙ ap Some next
  store_numbered n k false rest behind left o d within =
      behind k (left_behind n None (option_numbers k rest) left) o d within

  numbered_from : (n k : ℕ) (rest : List StoreMeaning) → IsLeft n (option_numbers k rest) → AreNumbered n k (option_numbers k rest)
  numbered_from n k [] left o d within = absurd (omega arith)
  numbered_from n k (s ∷ ss) left o d within =
      store_numbered n k s.is_option ss (λ m. numbered_from (n + 1) m ss) left o d within

  pub options_numbered : AreNumbered 0 0 (option_numbers 0 all)
  options_numbered = numbered_from 0 0 all (λ i. ap (λ m. option_number all (Numbered m)) (none i) ∙ sym (number_found all i))
    where
      none : (i : ℕ) → 0 + i ≡ i
      none i = omega arith

pub number_of_option : (tables : Tables) (options : List ℕ) (o d : ℕ) → options ≡ option_stores tables → o < length options
    → option_number (tab tables).stores (Numbered (get_or options o d)) ≡ Some o
number_of_option tables options o d are within =
    let here : 0 + o ≡ o = omega arith in
    ap (λ (stores : List ℕ). option_number (tab tables).stores (Numbered (get_or stores o d))) are
    ∙ (options_numbered (tab tables).stores o d (subst (λ (stores : List ℕ). o < length stores) are within) ∙ ap Some here)

pub option_within : (tables : Tables) (options : List ℕ) (o d : ℕ) → options ≡ option_stores tables → o < length options
    → get_or options o d < length (tab tables).stores
option_within tables options o d are within =
    contents.option_within tables (get_or options o d) o (number_of_option tables options o d are within)

-- ---- the values that their cells denote

module _ {X : Type 0} (value : Cell → X) (all : List Cell) where
  values_from : (n k : ℕ) (stores : List StoreMeaning) (cells : List Cell) → length cells ≡ length stores → ((i : ℕ) → slice_get all (n + i) ≡ slice_get cells i)
      → map value (map (cell_at all) (options_from n (option_numbers k stores))) ≡ of_options stores (map value cells)
  values_from n k [] cells count left = refl
  values_from n k (s ∷ ss) [] count left = absurd (omega (arith, count))
  values_from n k (s ∷ ss) (c ∷ cs) count left =
      elim (s.is_option) as (λ b. map value (map (cell_at all) (options_from n (if b then Some k ∷ option_numbers (k + 1) ss else None ∷ option_numbers k ss)))
      ≡ (if b then value c ∷ of_options ss (map value cs) else of_options ss (map value cs))) [
        | true ↦ λ i. value (here i) ∷ values_from (n + 1) (k + 1) ss cs few behind i
        | false ↦ values_from (n + 1) k ss cs few behind
      ]
    where
      few : length cs ≡ length ss
      few = omega (arith, count)

      first : n ≡ n + 0
      first = omega arith

      here : cell_at all n ≡ c
      here = ap (λ (cell : Option Cell). unwrap_or cell (first_cell n)) (ap (slice_get all) first ∙ left 0)

      next : (i : ℕ) → n + 1 + i ≡ n + suc i
      next i = omega arith

      behind : (i : ℕ) → slice_get all (n + 1 + i) ≡ slice_get cs i
      behind i = ap (slice_get all) (next i) ∙ left (suc i)

  pub values_of_options : (stores : List StoreMeaning) → length all ≡ length stores
      → map value (map (cell_at all) (options_from 0 (option_numbers 0 stores))) ≡ of_options stores (map value all)
  values_of_options stores count = values_from 0 0 stores all count (λ i. ap (slice_get all) (none i))
    where
      none : (i : ℕ) → 0 + i ≡ i
      none i = omega arith

-- the cells of the options denote the values of an engine
pub values_of_cells : (engine : EngineState) (all cells : List Cell) (options : List ℕ) → options ≡ option_stores engine.tables → cells ≡ map (cell_at all) options
    → length all ≡ length (tab engine.tables).stores
    → option_values (tab engine.tables).stores all ≡ engine.current → option_saves (tab engine.tables).stores all ≡ engine.saved
    → values_in engine.tables cells ≡ values_now engine
values_of_cells engine all cells options are is count current saved =
    let stores : List StoreMeaning = (tab engine.tables).stores in
    let each : cells ≡ map (cell_at all) (option_stores engine.tables) = is ∙ ap (map (cell_at all)) are in
    ap (values_in engine.tables) each
    ∙ (λ i. record { current = values_of_options (current_value (stated stores)) all stores count i; saved = values_of_options (saved_value (stated stores)) all stores count i })
    ∙ (λ i. record { current = current i; saved = saved i })

-- ---- their changes

module _ (before after : Values) where
  -- the changes of the options from an option number on, given their stores
  abbrev pub changes_of : ℕ → List ℕ → List Change
  changes_of option [] = []
  changes_of option (store ∷ stores) =
      (current_change before after store option ++ saved_change before after store option) ++ changes_of (option + 1) stores

  changes_by : (n k : ℕ) (stores : List StoreMeaning) → changes_of k (options_from n (option_numbers k stores)) ≡ changes_from before after n (option_numbers k stores)
  changes_by n k [] = refl
  changes_by n k (s ∷ ss) =
      elim (s.is_option) as (λ b. changes_of k (options_from n (if b then Some k ∷ option_numbers (k + 1) ss else None ∷ option_numbers k ss))
      ≡ changes_from before after n (if b then Some k ∷ option_numbers (k + 1) ss else None ∷ option_numbers k ss)) [
        | true ↦ ap (λ (rest : List Change). (current_change before after n k ++ saved_change before after n k) ++ rest) (changes_by (n + 1) (k + 1) ss)
        | false ↦ changes_by (n + 1) k ss
      ]

  pub changes_of_all : (tables : Tables) (options : List ℕ) → options ≡ option_stores tables → changes_of 0 options ≡ changes_between tables before after
  changes_of_all tables options are = ap (changes_of 0) are ∙ changes_by 0 0 (tab tables).stores
