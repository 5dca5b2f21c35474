-- The number of bytes of the first characters of a text, byte by byte.
use Rattle.std.proofs.Common.{◌≡◌, ℕ, ◌+◌, ◌<◌, Bool, false, if◌then◌else◌, List, ◌∷◌, length, drop, get_or, sym, ap, ◌∙◌, arith}
use Rattle.std.proofs.lemmas.List.{drop_more}
use Rattle.check_texts.specs.Details.{front_size, is_past, left_after}

-- the loop keeps its sum as it passes a byte that is printed
pub byte_passed : (text : List ℕ) (size left rest d byte answer : ℕ) (past : Bool) → size < length text → byte ≡ get_or text size d
    → past ≡ is_past left byte → past ≡ false → rest ≡ left_after left byte
    → size + front_size left (drop size text) ≡ answer → (size + 1) + front_size rest (drop (size + 1) text) ≡ answer
byte_passed text size left rest d byte answer past within at is printed after so_far =
    let first : drop size text ≡ byte ∷ drop (size + 1) text = drop_more text size d within ∙ ap (λ (b : ℕ). b ∷ drop (size + 1) text) (sym at) in
    let step : front_size left (drop size text) ≡ 1 + front_size rest (drop (size + 1) text)
    = ap (front_size left) first
    ∙ ap (λ (b : Bool). if b then 0 else 1 + front_size (left_after left byte) (drop (size + 1) text)) (sym is ∙ printed)
    ∙ ap (λ (n : ℕ). 1 + front_size n (drop (size + 1) text)) (sym after) in
    omega (arith, step, so_far)
