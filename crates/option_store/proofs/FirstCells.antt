-- The cells of a list one by one.
use Rattle.std.proofs.Common.{◌≡◌, ℕ, zero, suc, ◌+◌, ◌-◌, ◌<◌, List, [], ◌∷◌, ◌++◌, length, refl, sym, ap, ◌∙◌, append_assoc, append-nil, ◌≤◌, None, arith}
use Rattle.std.proofs.lemmas.List.{length-set}
use Rattle.option_store.specs.declared.options.Cell.{Cell}
use Rattle.option_store.specs.declared.options.Held.TheVariants.{Store}
use Rattle.option_store.specs.Cells.{first_cell, first_cells, cell_at, changed}

counted : (store n : ℕ) → 0 < n → first_cells store n ≡ first_cell store ∷ first_cells (store + 1) (n - 1)
counted store zero some = absurd (omega arith)
counted store (suc n) some = ap (λ k. first_cell store ∷ first_cells (store + 1) k) (omega arith)

-- one more cell is made
pub one_more_cell : (store stores : ℕ) → store < stores → first_cells store (stores - store) ≡ first_cell store ∷ first_cells (store + 1) (stores - (store + 1))
one_more_cell store stores less =
    counted store (stores - store) (omega arith) ∙ ap (λ k. first_cell store ∷ first_cells (store + 1) k) (omega arith)

-- one more cell is pushed
pub pushed_cell : (before after whole : List Cell) (text : List ℕ) (store stores : ℕ) → store < stores → text ≡ []
    → after ≡ before ++ record { current = Store store; saved = None; text = text } ∷ []
    → before ++ first_cells store (stores - store) ≡ whole → after ++ first_cells (store + 1) (stores - (store + 1)) ≡ whole
pushed_cell before after whole text store stores less empty pushed is =
    let rest : List Cell = first_cells (store + 1) (stores - (store + 1)) in
    (λ i. pushed i ++ rest) ∙ (λ i. (before ++ record { current = Store store; saved = None; text = empty i } ∷ []) ++ rest)
    ∙ append_assoc before (first_cell store ∷ []) rest
    ∙ ap (λ cells. before ++ cells) (sym (one_more_cell store stores less)) ∙ is

-- there are as many cells as stores
pub first_cells_count : (store n : ℕ) → length (first_cells store n) ≡ n
first_cells_count store zero = refl
first_cells_count store (suc n) = ap (λ k. suc k) (first_cells_count (store + 1) n)

-- changing a cell does not change the number of cells
pub changed_count : (store : ℕ) (change : Cell → Cell) (cells : List Cell) → length (changed store change cells) ≡ length cells
changed_count store change cells = length-set cells store (change (cell_at cells store))

-- after the last store, all cells are made
pub all_made : (cells : List Cell) (store stores : ℕ) → stores ≤ store → cells ++ first_cells store (stores - store) ≡ first_cells 0 stores → length cells ≡ stores
all_made cells store stores done is =
    let none : stores - store ≡ 0 = omega (arith, done) in
    ap length (sym (append-nil cells) ∙ ap (λ k. cells ++ first_cells store k) (sym none) ∙ is) ∙ first_cells_count 0 stores
