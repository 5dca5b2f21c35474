-- The calls change the cells as the meaning changes the option values.
use Rattle.std.proofs.Common.{◌≡◌, ℕ, zero, suc, ◌+◌, ◌<◌, Bool, true, false, if◌then◌else◌, List, [], ◌∷◌, length, map, Option, Some, None, refl, sym, ap, ◌∙◌, arith}
use Rattle.std.specs.Prelude.{slice_get, slice_set, unwrap_or, option_map}
use Rattle.std.proofs.lemmas.List.{map-set, length-map}
use Rattle.std.proofs.Math.Seq.{map-set_same}
use Rattle.std.proofs.lemmas.Option.{slice_get-map, slice_get-get_or, unwrap_or-slice_get}
use Rattle.kmn_base.specs.declared.items.Element.{Element}
use Rattle.kmn_base.specs.declared.items.Element.TheVariants.{Char}
use Rattle.rule_model.specs.declared.event_state.EventState.{EventState}
use Rattle.rule_model.specs.Keyboard.{Keyboard, StoreMeaning, stated}
use Rattle.rule_model.specs.Act.{set_current, save_current, reset_current, value_to_reset}
use Rattle.rule_model.specs.Content.{elements_at, elements_of_store, option_of, options_before}
use Rattle.rule_model.specs.Event.{State, set_option}
use Rattle.rule_model.specs.Plain.{of_options}
use Rattle.rule_model.specs.Trace.{options_of, none_saved, first_state}
use Rattle.option_store.specs.declared.options.Cell.{Cell}
use Rattle.option_store.specs.declared.options.Held.{Held}
use Rattle.option_store.specs.declared.options.Held.TheVariants.{Store}
use Rattle.option_store.specs.Cells.{first_cell, first_cells, cell_at, changed, set_cell, save_cell, reset_cell, host_cell, held_value, current_value, saved_value, current_values, saved_values}
use Rattle.option_store.specs.Meaning.{option_values, option_saves, with_values, holding, Follow}

-- the values after the value of an option is changed, or unchanged values if there is no option
abbrev set_at : {X : Type 0} → Option ℕ → X → List X → List X
set_at None v xs = xs
set_at (Some option) v xs = slice_set xs option v

-- if the value of a store is changed, the value of its option is changed
module _ {X : Type 0} (v : X) where
  step_set : (n : ℕ) (is_option : Bool) (store : Option StoreMeaning) (k : ℕ) (x : X) (xs ys : List X) → ys ≡ set_at (option_of k store) v xs
      → (if is_option then x ∷ ys else ys) ≡ set_at (option_of (if is_option then 1 + k else k) store) v (if is_option then x ∷ xs else xs)
  step_set n true None k x xs ys is = ap (λ zs. x ∷ zs) is
  step_set n false None k x xs ys is = is
  step_set n true (Some store) k x xs ys is = elim (store.is_option) as (λ b. ys ≡ set_at (if b then Some k else None) v xs → x ∷ ys ≡ set_at (if b then Some (1 + k) else None) v (x ∷ xs)) [
    | true ↦ λ e. let one : suc k ≡ 1 + k = omega arith in ap (λ zs. x ∷ zs) e ∙ ap (λ o. slice_set (x ∷ xs) o v) one
    | false ↦ λ e. ap (λ zs. x ∷ zs) e
  ] is
  step_set n false (Some store) k x xs ys is = is

  pub options_set : (stores : List StoreMeaning) (values : List X) (n : ℕ) → of_options stores (slice_set values n v) ≡ set_at (option_of (options_before n stores) (slice_get stores n)) v (of_options stores values)
  options_set [] values n = refl
  options_set (s ∷ ss) [] n = nothing (option_of (options_before n (s ∷ ss)) (slice_get (s ∷ ss) n))
    where
      nothing : (option : Option ℕ) → [] ≡ set_at option v []
      nothing None = refl
      nothing (Some option) = refl
  options_set (s ∷ ss) (x ∷ xs) zero = elim (s.is_option) as (λ b. (if b then v ∷ of_options ss xs else of_options ss xs) ≡ set_at (if b then Some 0 else None) v (if b then x ∷ of_options ss xs else of_options ss xs)) [
    | true ↦ refl
    | false ↦ refl
  ]
  options_set (s ∷ ss) (x ∷ xs) (suc n) =
      step_set n s.is_option (slice_get ss n) (options_before n ss) x (of_options ss xs) (of_options ss (slice_set xs n v)) (options_set ss xs n)

-- the value of an option is the value of its store
module _ {X : Type 0} where
  step_get : (is_option : Bool) (store : Option StoreMeaning) (k o : ℕ) (x : X) (xs : List X) (value : Option X)
      → ((p : ℕ) → option_of k store ≡ Some p → slice_get xs p ≡ value)
      → option_of (if is_option then 1 + k else k) store ≡ Some o → slice_get (if is_option then x ∷ xs else xs) o ≡ value
  step_get is_option None k o x xs value found is = absurd (cc)
  step_get false (Some store) k o x xs value found is = found o is
  step_get true (Some store) k o x xs value found is = elim (store.is_option) as (λ b. ((p : ℕ) → (if b then Some k else None) ≡ Some p → slice_get xs p ≡ value) → (if b then Some (1 + k) else None) ≡ Some o → slice_get (x ∷ xs) o ≡ value) [
    | true ↦ λ f e. let same : 1 + k ≡ o = cc in let one : o ≡ suc k = omega (arith, same) in ap (slice_get (x ∷ xs)) one ∙ f k refl
    | false ↦ λ f e. absurd (cc)
  ] found is

  pub options_get : (stores : List StoreMeaning) (values : List X) (n o : ℕ) → n < length values → option_of (options_before n stores) (slice_get stores n) ≡ Some o
      → slice_get (of_options stores values) o ≡ slice_get values n
  options_get [] values n o within is = absurd (cc)
  options_get (s ∷ ss) [] n o within is = absurd (omega arith)
  options_get (s ∷ ss) (x ∷ xs) zero o within is = elim (s.is_option) as (λ b. (if b then Some 0 else None) ≡ Some o → slice_get (if b then x ∷ of_options ss xs else of_options ss xs) o ≡ Some x) [
    | true ↦ λ e. let same : 0 ≡ o = cc in ap (slice_get (x ∷ of_options ss xs)) (sym same)
    | false ↦ λ e. absurd (cc)
  ] is
  options_get (s ∷ ss) (x ∷ xs) (suc n) o within is =
      step_get s.is_option (slice_get ss n) (options_before n ss) o x (of_options ss xs) (slice_get xs n)
      (λ p e. options_get ss xs n p (omega arith) e) is

-- ---- the values of changed cells

module _ (stores : List StoreMeaning) (cells : List Cell) (n : ℕ) where
  values_changed : (change : Cell → Cell) → current_values (stated stores) (changed n change cells) ≡ slice_set (current_values (stated stores) cells) n (current_value (stated stores) (change (cell_at cells n)))
  values_changed change = map-set (current_value (stated stores)) cells n (change (cell_at cells n))

  saves_changed : (change : Cell → Cell) → saved_values (stated stores) (changed n change cells) ≡ slice_set (saved_values (stated stores) cells) n (saved_value (stated stores) (change (cell_at cells n)))
  saves_changed change = map-set (saved_value (stated stores)) cells n (change (cell_at cells n))

  abbrev pub number : Option ℕ
  number = option_of (options_before n stores) (slice_get stores n)

  -- the values of the options of changed cells
  option_changed : (change : Cell → Cell) → option_values stores (changed n change cells) ≡ set_at number (current_value (stated stores) (change (cell_at cells n))) (option_values stores cells)
  option_changed change = ap (of_options stores) (values_changed change) ∙ options_set (current_value (stated stores) (change (cell_at cells n))) stores (current_values (stated stores) cells) n

  save_changed : (change : Cell → Cell) → option_saves stores (changed n change cells) ≡ set_at number (saved_value (stated stores) (change (cell_at cells n))) (option_saves stores cells)
  save_changed change = ap (of_options stores) (saves_changed change) ∙ options_set (saved_value (stated stores) (change (cell_at cells n))) stores (saved_values (stated stores) cells) n

  saves_same : (change : Cell → Cell) → saved_value (stated stores) (change (cell_at cells n)) ≡ saved_value (stated stores) (cell_at cells n) → option_saves stores (changed n change cells) ≡ option_saves stores cells
  saves_same change same = ap (of_options stores)
      (map-set_same (saved_value (stated stores)) cells n (change (cell_at cells n)) (first_cell n) (same ∙ ap (saved_value (stated stores)) (unwrap_or-slice_get cells n (first_cell n))))

  values_same : (change : Cell → Cell) → current_value (stated stores) (change (cell_at cells n)) ≡ current_value (stated stores) (cell_at cells n) → option_values stores (changed n change cells) ≡ option_values stores cells
  values_same change same = ap (of_options stores)
      (map-set_same (current_value (stated stores)) cells n (change (cell_at cells n)) (first_cell n) (same ∙ ap (current_value (stated stores)) (unwrap_or-slice_get cells n (first_cell n))))

  -- the values at a store's number are the values of its cell
  value_found : n < length cells → slice_get (current_values (stated stores) cells) n ≡ Some (current_value (stated stores) (cell_at cells n))
  value_found within = slice_get-map (current_value (stated stores)) cells n
      ∙ ap (option_map (current_value (stated stores))) (slice_get-get_or cells n (first_cell n) within)
      ∙ ap (λ c. Some (current_value (stated stores) c)) (sym (unwrap_or-slice_get cells n (first_cell n)))

  save_found : n < length cells → slice_get (saved_values (stated stores) cells) n ≡ Some (saved_value (stated stores) (cell_at cells n))
  save_found within = slice_get-map (saved_value (stated stores)) cells n
      ∙ ap (option_map (saved_value (stated stores))) (slice_get-get_or cells n (first_cell n) within)
      ∙ ap (λ c. Some (saved_value (stated stores) c)) (sym (unwrap_or-slice_get cells n (first_cell n)))

  pub option_value_found : n < length cells → (p : ℕ) → number ≡ Some p → slice_get (option_values stores cells) p ≡ Some (current_value (stated stores) (cell_at cells n))
  option_value_found within p is = options_get stores (current_values (stated stores) cells) n p (omega (arith, length-map cells (current_value (stated stores)))) is ∙ value_found within

  pub option_save_found : n < length cells → (p : ℕ) → number ≡ Some p → slice_get (option_saves stores cells) p ≡ Some (saved_value (stated stores) (cell_at cells n))
  option_save_found within p is = options_get stores (saved_values (stated stores) cells) n p (omega (arith, length-map cells (saved_value (stated stores)))) is ∙ save_found within

-- the elements of a store are those that it is stated with
elements_stated : (store : Option StoreMeaning) → unwrap_or (option_map (λ (store : StoreMeaning). store.elements) store) [] ≡ elements_of_store store
elements_stated None = refl
elements_stated (Some store) = refl

pub stated_at : (stores : List StoreMeaning) (v : ℕ) → unwrap_or (slice_get (stated stores) v) [] ≡ elements_at stores (Some v)
stated_at stores v = ap (λ elements. unwrap_or elements []) (slice_get-map (λ (store : StoreMeaning). store.elements) stores v) ∙ elements_stated (slice_get stores v)

-- ---- the calls

set_as_change : (option : Option ℕ) (value : List Element) (s : EventState) → set_current option value s ≡ record s { current = set_at option value s.current }
set_as_change None value s = refl
set_as_change (Some option) value s = refl

host_as_change : (option : Option ℕ) (value : List Element) (state : State) → set_option option value state ≡ record state { current = set_at option value state.current; saved = set_at option (Some value) state.saved }
host_as_change None value state = refl
host_as_change (Some option) value state = refl

save_as_change : (option : Option ℕ) (value : List Element) (values : List (List Element)) (saves saves_after : List (Option (List Element))) (s : EventState)
    → ((p : ℕ) → option ≡ Some p → slice_get values p ≡ Some value) → saves_after ≡ set_at option (Some value) saves
    → save_current option (record s { current = values; saved = saves }) ≡ record (save_current option s) { current = values; saved = saves_after }
save_as_change None value values saves saves_after s found is = ap (λ list. record s { current = values; saved = list }) (sym is)
save_as_change (Some option) value values saves saves_after s found is =
    (λ i. save_as values (slice_set saves option (Some (unwrap_or (found option refl i) [])))) ∙ ap (save_as values) (sym is)
  where
    save_as : List (List Element) → List (Option (List Element)) → EventState
    save_as current list = record (save_current (Some option) s) { current = current; saved = list }

reset_as_change : (option : Option ℕ) (stated_value value : List Element) (saved : Option (List Element)) (values values_after : List (List Element)) (saves : List (Option (List Element))) (s : EventState)
    → ((p : ℕ) → option ≡ Some p → slice_get saves p ≡ Some saved) → value_to_reset (Some saved) stated_value ≡ value → values_after ≡ set_at option value values
    → reset_current option stated_value (record s { current = values; saved = saves }) ≡ record s { current = values_after; saved = saves }
reset_as_change None stated_value value saved values values_after saves s found gives is = ap (λ list. record s { current = list; saved = saves }) (sym is)
reset_as_change (Some option) stated_value value saved values values_after saves s found gives is =
    ap (λ value. reset_to (slice_set values option value)) (ap (λ found. value_to_reset found stated_value) (found option refl) ∙ gives) ∙ ap reset_to (sym is)
  where
    reset_to : List (List Element) → EventState
    reset_to list = record s { current = list; saved = saves }

reset_value : (stores : List StoreMeaning) (n : ℕ) (text : List ℕ) (saved : Option Held)
    → value_to_reset (Some (option_map (held_value (stated stores) text) saved)) (elements_at stores (Some n)) ≡ held_value (stated stores) text (unwrap_or saved (Store n))
reset_value stores n text None = sym (stated_at stores n)
reset_value stores n text (Some held) = refl

pub calls_follow : (stores : List StoreMeaning) (cells : List Cell) (n : ℕ) → n < length cells → Follow stores cells n
calls_follow stores cells n within = record {
  set = λ v s. set_as_change (number stores cells n) (elements_at stores (Some v)) (with_values stores cells s)
      ∙ (λ i. record s { current = values_set v i; saved = sym (saves_same stores cells n (set_cell v) refl) i });
  save = λ s. save_as_change (number stores cells n) (current_value (stated stores) (cell_at cells n)) (option_values stores cells) (option_saves stores cells) (option_saves stores (changed n save_cell cells)) s
      (option_value_found stores cells n within) (save_changed stores cells n save_cell)
      ∙ ap (λ values. record (save_current (number stores cells n) s) { current = values; saved = option_saves stores (changed n save_cell cells) }) (sym (values_same stores cells n save_cell refl));
  reset = λ s. reset_as_change (number stores cells n) (elements_at stores (Some n)) (current_value (stated stores) (reset_cell n (cell_at cells n))) (saved_value (stated stores) (cell_at cells n))
      (option_values stores cells) (option_values stores (changed n (reset_cell n) cells)) (option_saves stores cells) s
      (option_save_found stores cells n within) (reset_value stores n (cell_at cells n).text (cell_at cells n).saved) (option_changed stores cells n (reset_cell n))
      ∙ ap (λ saves. record s { current = option_values stores (changed n (reset_cell n) cells); saved = saves }) (sym (saves_same stores cells n (reset_cell n) refl));
  host = λ text state. host_as_change (number stores cells n) (map Char text) (holding stores cells state)
      ∙ (λ i. record state { current = sym (option_changed stores cells n (host_cell text)) i; saved = sym (save_changed stores cells n (host_cell text)) i });
}
  where
    values_set : (v : ℕ) → set_at (number stores cells n) (elements_at stores (Some v)) (option_values stores cells) ≡ option_values stores (changed n (set_cell v) cells)
    values_set v = ap (λ value. set_at (number stores cells n) value (option_values stores cells)) (sym (stated_at stores v)) ∙ sym (option_changed stores cells n (set_cell v))

-- ---- before the first event

first_values : (elements : List (List Element)) (k : ℕ) (rest : List (List Element)) → ((i : ℕ) → i < length rest → slice_get elements (k + i) ≡ slice_get rest i) → current_values elements (first_cells k (length rest)) ≡ rest
first_values elements k [] at = refl
first_values elements k (value ∷ rest) at =
    (λ i. first i ∷ first_values elements (k + 1) rest behind i)
  where
    here : k + 0 ≡ k
    here = omega arith

    first : unwrap_or (slice_get elements k) [] ≡ value
    first = ap (λ value. unwrap_or value []) (ap (slice_get elements) (sym here) ∙ at 0 (omega arith))

    behind : (i : ℕ) → i < length rest → slice_get elements (k + 1 + i) ≡ slice_get rest i
    behind i less = let next : k + 1 + i ≡ k + suc i = omega arith in ap (slice_get elements) next ∙ at (suc i) (omega arith)

options_stated : (stores : List StoreMeaning) → of_options stores (stated stores) ≡ map (λ (store : StoreMeaning). store.elements) (options_of stores)
options_stated [] = refl
options_stated (s ∷ ss) = elim (s.is_option) as (λ b. (if b then s.elements ∷ of_options ss (stated ss) else of_options ss (stated ss)) ≡ map (λ (store : StoreMeaning). store.elements) (if b then s ∷ options_of ss else options_of ss)) [
  | true ↦ ap (λ values. s.elements ∷ values) (options_stated ss)
  | false ↦ options_stated ss
]

options_unsaved : (elements : List (List Element)) (k : ℕ) (stores : List StoreMeaning) → of_options stores (saved_values elements (first_cells k (length stores))) ≡ map none_saved (options_of stores)
options_unsaved elements k [] = refl
options_unsaved elements k (s ∷ ss) = elim (s.is_option) as (λ b. (if b then None ∷ of_options ss (saved_values elements (first_cells (k + 1) (length ss))) else of_options ss (saved_values elements (first_cells (k + 1) (length ss)))) ≡ map none_saved (if b then s ∷ options_of ss else options_of ss)) [
  | true ↦ ap (λ saves. None ∷ saves) (options_unsaved elements (k + 1) ss)
  | false ↦ options_unsaved elements (k + 1) ss
]

-- at first each option has its elements, and nothing is saved
pub first_option_values : (stores : List StoreMeaning) → option_values stores (first_cells 0 (length stores)) ≡ map (λ (store : StoreMeaning). store.elements) (options_of stores)
first_option_values stores =
    ap (of_options stores) (ap (λ n. current_values (stated stores) (first_cells 0 n)) (sym (length-map stores (λ (store : StoreMeaning). store.elements)))
    ∙ first_values (stated stores) 0 (stated stores) (λ i less. let same : 0 + i ≡ i = omega arith in ap (slice_get (stated stores)) same))
    ∙ options_stated stores

pub first_option_saves : (stores : List StoreMeaning) → option_saves stores (first_cells 0 (length stores)) ≡ map none_saved (options_of stores)
first_option_saves stores = options_unsaved (stated stores) 0 stores

-- with these values the first state is the same
pub first_cells_are_first_state : (kb : Keyboard) → holding kb.stores (first_cells 0 (length kb.stores)) (first_state kb) ≡ first_state kb
first_cells_are_first_state kb =
    λ i. record (first_state kb) { current = first_option_values kb.stores i; saved = first_option_saves kb.stores i }
