-- Keys and their cells, drawn one by one.
use Rattle.std.proofs.Common.{◌≡◌, ℕ, zero, suc, ◌≤◌, min, List, [], ◌∷◌, length, drop, refl, ◌∙◌, ap, arith}
use Rattle.std.proofs.lemmas.List.{drop_all}
use Rattle.chart_board.specs.declared.board.Key.{Key}
use Rattle.chart_board.specs.declared.cells.Cell.{Cell}
use Rattle.chart_drawing.specs.Boards.{key_drawings}

-- without cells there is no drawing
no_cells : (mods : ℕ) (keys : List Key) → key_drawings mods keys [] ≡ []
no_cells mods [] = refl
no_cells mods (key ∷ keys) = refl

-- after the last key or the last cell there is no drawing
pub drawn_all : (mods n : ℕ) (keys : List Key) (cells : List Cell) → min (length keys) (length cells) ≤ n
    → key_drawings mods (drop n keys) (drop n cells) ≡ []
drawn_all mods n [] cells h = ap (λ (xs : List Key). key_drawings mods xs (drop n cells)) (drop_all n [] (omega arith))
drawn_all mods n (key ∷ keys) [] h =
    ap (key_drawings mods (drop n (key ∷ keys))) (drop_all n [] (omega arith)) ∙ no_cells mods (drop n (key ∷ keys))
drawn_all mods zero (key ∷ keys) (cell ∷ cells) h = absurd (omega (arith, h))
drawn_all mods (suc n) (key ∷ keys) (cell ∷ cells) h = drawn_all mods n keys cells (omega (arith, h))
