-- Layers and their taps, and keys and their cells, drawn one by one.
use Rattle.std.proofs.Common.{◌≡◌, ℕ, zero, suc, ◌≤◌, min, List, [], ◌∷◌, length, drop, refl, ◌∙◌, ap, arith}
use Rattle.std.proofs.lemmas.List.{drop_all}
use Rattle.chart_board.specs.declared.cells.Cell.{Cell}
use Rattle.chart_board.specs.declared.charts.Layer.{Layer}
use Rattle.touch_board.specs.declared.layers.TouchKey.{TouchKey}
use Rattle.touch_board.specs.declared.layers.TouchLayer.{TouchLayer}
use Rattle.chart_drawing.specs.Touch.{touch_keys, touch_boards}

-- without cells there is no drawing
no_cells : (mods : ℕ) (keys : List TouchKey) → touch_keys mods keys [] ≡ []
no_cells mods [] = refl
no_cells mods (key ∷ keys) = refl

-- after the last key or the last cell there is no drawing
pub keys_drawn : (mods n : ℕ) (keys : List TouchKey) (cells : List Cell) → min (length keys) (length cells) ≤ n
    → touch_keys mods (drop n keys) (drop n cells) ≡ []
keys_drawn mods n [] cells h = ap (λ (xs : List TouchKey). touch_keys mods xs (drop n cells)) (drop_all n [] (omega arith))
keys_drawn mods n (key ∷ keys) [] h =
    ap (touch_keys mods (drop n (key ∷ keys))) (drop_all n [] (omega arith)) ∙ no_cells mods (drop n (key ∷ keys))
keys_drawn mods zero (key ∷ keys) (cell ∷ cells) h = absurd (omega (arith, h))
keys_drawn mods (suc n) (key ∷ keys) (cell ∷ cells) h = keys_drawn mods n keys cells (omega (arith, h))

-- without taps there is no drawing
no_taps : (top : ℕ) (layers : List TouchLayer) → touch_boards top layers [] ≡ []
no_taps top [] = refl
no_taps top (layer ∷ layers) = refl

-- after the last layer or the last taps there is no drawing
pub boards_drawn : (top n : ℕ) (layers : List TouchLayer) (taps : List Layer) → min (length layers) (length taps) ≤ n
    → touch_boards top (drop n layers) (drop n taps) ≡ []
boards_drawn top n [] taps h = ap (λ (xs : List TouchLayer). touch_boards top xs (drop n taps)) (drop_all n [] (omega arith))
boards_drawn top n (layer ∷ layers) [] h =
    ap (touch_boards top (drop n (layer ∷ layers))) (drop_all n [] (omega arith)) ∙ no_taps top (drop n (layer ∷ layers))
boards_drawn top zero (layer ∷ layers) (tap ∷ taps) h = absurd (omega (arith, h))
boards_drawn top (suc n) (layer ∷ layers) (tap ∷ taps) h = boards_drawn top n layers taps (omega (arith, h))
