-- The text before and after the caret, if characters are moved across the spare room.
use Rattle.std.proofs.Common.{◌≡◌, ℕ, ◌+◌, ◌-◌, ◌≤◌, List, ◌++◌, length, take, drop, sym, ◌∙◌, ap, append_assoc, arith}
use Rattle.std.specs.List.{copy_within}
use Rattle.std.proofs.lemmas.List.{take-append-le, take-take, drop-drop, drop-take, drop_at, length-take-le, length-drop}
use Rattle.std.proofs.lemmas.List.Edits.{take-paste, drop-paste}

-- if the last n characters before the caret move after the spare room, the text before the caret loses them
pub left_after_back : (xs : List ℕ) (start end n : ℕ) → n ≤ start → start ≤ end → end ≤ length xs
    → take (start - n) (copy_within xs (start - n) start (end - n)) ≡ take (length (take start xs) - n) (take start xs)
left_after_back xs start end n few ordered within =
    let front : length (take (end - n) xs) ≡ end - n = length-take-le (end - n) xs (omega arith) in
    let count : length (take start xs) ≡ start = length-take-le start xs (omega arith) in
    ap (take (start - n)) (append_assoc (take (end - n) xs) (take (start - (start - n)) (drop (start - n) xs)) (drop (end - n + (start - (start - n))) xs))
    ∙ take-append-le (start - n) (take (end - n) xs) (take (start - (start - n)) (drop (start - n) xs) ++ drop (end - n + (start - (start - n))) xs) (omega arith)
    ∙ take-take (start - n) (end - n) xs (omega arith)
    ∙ sym (ap (λ (k : ℕ). take (k - n) (take start xs)) count ∙ take-take (start - n) start xs (omega arith))

-- if the last n characters before the caret move after the spare room, they precede the text after the caret
pub right_after_back : (xs : List ℕ) (start end n : ℕ) → n ≤ start → start ≤ end → end ≤ length xs
    → drop (end - n) (copy_within xs (start - n) start (end - n)) ≡ drop (length (take start xs) - n) (take start xs) ++ drop end xs
right_after_back xs start end n few ordered within =
    let at : ℕ = start - n in
    let moved : ℕ = start - at in
    let front : length (take (end - n) xs) ≡ end - n = length-take-le (end - n) xs (omega arith) in
    let count : length (take start xs) ≡ start = length-take-le start xs (omega arith) in
    let whole : at + moved ≡ start = omega arith in
    let behind : end - n + moved ≡ end = omega arith in
    let piece : take moved (drop at xs) ≡ drop at (take start xs) = sym (drop-take at moved xs) ∙ ap (λ (k : ℕ). drop at (take k xs)) whole in
    ap (drop (end - n)) (append_assoc (take (end - n) xs) (take moved (drop at xs)) (drop (end - n + moved) xs))
    ∙ drop_at (take (end - n) xs) (take moved (drop at xs) ++ drop (end - n + moved) xs) (end - n) front
    ∙ ap (λ (k : ℕ). take moved (drop at xs) ++ drop k xs) behind
    ∙ ap (λ (p : List ℕ). p ++ drop end xs) (piece ∙ ap (λ (k : ℕ). drop (k - n) (take start xs)) (sym count))

-- if the first n characters after the spare room move before it, they are appended to the text before the caret
pub left_after_forth : (xs : List ℕ) (start end n : ℕ) → start ≤ end → end + n ≤ length xs
    → take (start + n) (copy_within xs end (end + n) start) ≡ take start xs ++ take n (drop end xs)
left_after_forth xs start end n ordered within =
    let moved : end + n - end ≡ n = omega arith in
    let left : length (drop end xs) ≡ length xs - end = length-drop end xs in
    ap (λ (k : ℕ). take (start + n) (take start xs ++ take k (drop end xs) ++ drop (start + k) xs)) moved
    ∙ take-paste xs start (drop end xs) n (omega arith) (omega arith)

-- if the first n characters after the spare room move before it, the text after the caret loses them
pub right_after_forth : (xs : List ℕ) (start end n : ℕ) → start ≤ end → end + n ≤ length xs
    → drop (end + n) (copy_within xs end (end + n) start) ≡ drop n (drop end xs)
right_after_forth xs start end n ordered within =
    let moved : end + n - end ≡ n = omega arith in
    let left : length (drop end xs) ≡ length xs - end = length-drop end xs in
    let ys : List ℕ = take start xs ++ take n (drop end xs) ++ drop (start + n) xs in
    let there : start + n + (end - start) ≡ end + n = omega arith in
    ap (λ (k : ℕ). drop (end + n) (take start xs ++ take k (drop end xs) ++ drop (start + k) xs)) moved
    ∙ ap (λ (k : ℕ). drop k ys) (sym there)
    ∙ sym (drop-drop (end - start) (start + n) ys)
    ∙ ap (drop (end - start)) (drop-paste xs start (drop end xs) n (omega arith) (omega arith))
    ∙ drop-drop (end - start) (start + n) xs
    ∙ ap (λ (k : ℕ). drop k xs) there
    ∙ sym (drop-drop n end xs)

-- if the spare room also covers the first character after it, the text after the caret loses this character
pub right_after_delete : (xs : List ℕ) (end : ℕ) → drop (end + 1) xs ≡ drop 1 (drop end xs)
right_after_delete xs end = sym (drop-drop 1 end xs)
