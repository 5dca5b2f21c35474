-- A store that is not an option holds itself, from the start on, and no store is stated with a text of the host that is held.
use Rattle.std.proofs.Common.{◌≡◌, ◌≢◌, ℕ, zero, suc, ◌+◌, ◌<◌, true, false, List, length, Option, None, Some, refl, sym, ◌∙◌, ap, subst, inl, inr, arith}
use Rattle.std.specs.Prelude.{is_some, slice_get, slice_set, unwrap_or}
use Rattle.std.proofs.lemmas.Bool.Decides.{eqb_tells}
use Rattle.std.proofs.lemmas.List.{get_or-set_other, get_or-set_same}
use Rattle.std.proofs.lemmas.Option.{unwrap_or-slice_get}
use Rattle.rule_model.specs.declared.tables.Tables.{Tables}
use Rattle.rule_model.specs.Content.{option_number}
use Rattle.rule_model.specs.Keyboard.{Numbered, StoreMeaning}
use Rattle.rule_model.specs.Tab.{tab}
use Rattle.option_store.specs.declared.options.Cell.{Cell}
use Rattle.option_store.specs.declared.options.Held.{Held}
use Rattle.option_store.specs.declared.options.Held.TheVariants.{Host, Store}
use Rattle.option_store.specs.Cells.{cell_at, changed, first_cell, first_cells, host_cell, reset_cell, save_cell, set_cell}
use Rattle.rule_index.specs.Texts.{IsApart}
use Rattle.rule_engine.specs.Event.{OthersHoldThemselves}

-- if a cell is changed, each other cell stays
pub cell_elsewhere : (cells : List Cell) (n m : ℕ) (change : Cell → Cell) → m ≢ n → cell_at (changed n change cells) m ≡ cell_at cells m
cell_elsewhere cells n m change other =
    let cell : Cell = change (cell_at cells n) in
    unwrap_or-slice_get (slice_set cells n cell) m (first_cell m)
    ∙ (get_or-set_other cells n m cell (first_cell m) other ∙ sym (unwrap_or-slice_get cells m (first_cell m)))

-- the cell that is changed is the changed one
pub cell_there : (cells : List Cell) (n : ℕ) (change : Cell → Cell) → n < length cells → cell_at (changed n change cells) n ≡ change (cell_at cells n)
cell_there cells n change few =
    let cell : Cell = change (cell_at cells n) in
    unwrap_or-slice_get (slice_set cells n cell) n (first_cell n) ∙ get_or-set_same cells n cell (first_cell n) few

-- if a cell has its text as its current or its saved value, no store is stated with the text
pub record CellIsApart (stores : List StoreMeaning) (cell : Cell) : Type 0 where
  pub current : cell.current ≡ Host → IsApart stores cell.text
  pub saved : cell.saved ≡ Some Host → IsApart stores cell.text

-- a change of a cell keeps this property
abbrev pub Keeps : List StoreMeaning → (Cell → Cell) → Type 0
Keeps stores change = (cell : Cell) → CellIsApart stores cell → CellIsApart stores (change cell)

-- each of the four changes keeps it
pub set_keeps : (stores : List StoreMeaning) (value : ℕ) → Keeps stores (set_cell value)
set_keeps stores value cell h = record { current = λ e. absurd (cc); saved = h.saved }

pub save_keeps : (stores : List StoreMeaning) → Keeps stores save_cell
save_keeps stores cell h = record { current = h.current; saved = λ (e : Some cell.current ≡ Some Host). h.current (cc) }

pub reset_keeps : (stores : List StoreMeaning) (store : ℕ) → Keeps stores (reset_cell store)
reset_keeps stores store cell h = record { current = by_saved cell.saved h.saved; saved = h.saved }
  where
    by_saved : (saved : Option Held) → (saved ≡ Some Host → IsApart stores cell.text) → unwrap_or saved (Store store) ≡ Host → IsApart stores cell.text
    by_saved None told e = absurd (cc)
    by_saved (Some held) told e = told (ap (λ (x : Held). Some x) e)

pub host_keeps : (stores : List StoreMeaning) (text : List ℕ) → IsApart stores text → Keeps stores (host_cell text)
host_keeps stores text apart cell h = record { current = λ e. apart; saved = λ e. apart }

-- at the start each store holds itself
first_there : (k n m : ℕ) → unwrap_or (slice_get (first_cells k n) m) (first_cell (k + m)) ≡ first_cell (k + m)
first_there k zero m = refl
first_there k (suc n) zero = let same : k ≡ k + 0 = omega arith in ap first_cell same
first_there k (suc n) (suc m) =
    let next : k + suc m ≡ k + 1 + m = omega arith in
    ap (λ cell. unwrap_or (slice_get (first_cells (k + 1) n) m) (first_cell cell)) next ∙ (first_there (k + 1) n m ∙ ap first_cell (sym next))

pub cell_at_first : (count n : ℕ) → cell_at (first_cells 0 count) n ≡ first_cell n
cell_at_first count n =
    let here : 0 + n ≡ n = omega arith in
    ap (λ k. unwrap_or (slice_get (first_cells 0 count) n) (first_cell k)) (sym here) ∙ (first_there 0 count n ∙ ap first_cell here)

pub others_at_first : (tables : Tables) (cells : List Cell) (count : ℕ) → cells ≡ first_cells 0 count → OthersHoldThemselves tables cells
others_at_first tables cells count are = record {
  itself = λ (n : ℕ) (none : option_number (tab tables).stores (Numbered n) ≡ None).
      ap (λ (these : List Cell). cell_at these n) are ∙ cell_at_first count n;
  apart = record {
    current = λ (n : ℕ) (e : (cell_at cells n).current ≡ Host).
        let same : cell_at cells n ≡ first_cell n = ap (λ (these : List Cell). cell_at these n) are ∙ cell_at_first count n in
        let never : Store n ≡ Host = sym (ap (λ (c : Cell). c.current) same) ∙ e in
        absurd (cc);
    saved = λ (n : ℕ) (e : (cell_at cells n).saved ≡ Some Host).
        let same : cell_at cells n ≡ first_cell n = ap (λ (these : List Cell). cell_at these n) are ∙ cell_at_first count n in
        let never : (first_cell n).saved ≡ Some Host = sym (ap (λ (c : Cell). c.saved) same) ∙ e in
        absurd (cc);
  };
}

module _ (tables : Tables) (cells after : List Cell) (n : ℕ) (change : Cell → Cell) (option : is_some (option_number (tab tables).stores (Numbered n)) ≡ true) where
  not_here : (m : ℕ) → option_number (tab tables).stores (Numbered m) ≡ None → m ≢ n
  not_here m none same =
      let both : true ≡ false
      = sym option ∙ (ap (λ (k : ℕ). is_some (option_number (tab tables).stores (Numbered k))) (sym same) ∙ ap is_some none) in
      absurd (cc)

  -- after the change of an option's cell each cell has the property
  cell_kept : n < length cells → Keeps (tab tables).stores change → after ≡ changed n change cells → OthersHoldThemselves tables cells → (m : ℕ) → CellIsApart (tab tables).stores (cell_at after m)
  cell_kept few keeps is hold m =
      let before : (k : ℕ) → CellIsApart (tab tables).stores (cell_at cells k) = λ k. record { current = hold.apart.current k; saved = hold.apart.saved k } in
      elim (eqb_tells m n) [
        | inl here ↦
            let same : change (cell_at cells n) ≡ cell_at after m
            = sym (cell_there cells n change few) ∙ ap (λ (these : List Cell). cell_at these n) (sym is) ∙ ap (cell_at after) (sym here.1) in
            subst (CellIsApart (tab tables).stores) same (keeps (cell_at cells n) (before n))
        | inr other ↦
            let same : cell_at cells m ≡ cell_at after m = sym (cell_elsewhere cells n m change other.1) ∙ ap (λ (these : List Cell). cell_at these m) (sym is) in
            subst (CellIsApart (tab tables).stores) same (before m)
      ]

  -- the change of an option's cell leaves the other cells
  pub others_kept : n < length cells → Keeps (tab tables).stores change → after ≡ changed n change cells → OthersHoldThemselves tables cells → OthersHoldThemselves tables after
  others_kept few keeps is hold = record {
    apart = record {
      current = λ m. (cell_kept few keeps is hold m).current;
      saved = λ m. (cell_kept few keeps is hold m).saved;
    };
    itself = λ (m : ℕ) (none : option_number (tab tables).stores (Numbered m) ≡ None).
        ap (λ (these : List Cell). cell_at these m) is ∙ (cell_elsewhere cells n m change (not_here m none) ∙ hold.itself m none);
  }
