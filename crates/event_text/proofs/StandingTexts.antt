-- The remaining characters of the borrowed text and the characters that were put.
use Rattle.std.proofs.Common.{◌≡◌, ℕ, ◌+◌, ◌-◌, ◌<◌, ◌≤◌, suc, List, [], ◌∷◌, ◌++◌, length, drop, take, set, refl, sym, ◌∙◌, ap, arith, length-append, length-drop, append_assoc}
use Rattle.std.specs.Prelude.{nat_eq}
use Rattle.std.proofs.lemmas.Bool.{cond-true, eq-eqb}
use Rattle.std.proofs.lemmas.List.{take-append-drop, take-append-le, take-take, length-take, append-nil}
use Rattle.std.proofs.Math.Seq.{take-suc-set, take-append-add, drop-append-add}
use Rattle.kmn_base.specs.Lists.{without_last}
use Rattle.rule_model.specs.KeyEvent.{common_prefix}

-- a character is put into the buffer
pub pushed : (front buffer : List ℕ) (added c : ℕ) → added < length buffer → front ++ take (added + 1) (set buffer added c) ≡ (front ++ take added buffer) ++ c ∷ []
pushed front buffer added c h =
    let next : added + 1 ≡ suc added = omega arith in
    ap (λ (n : ℕ). front ++ take n (set buffer added c)) next
    ∙ (ap (λ (xs : List ℕ). front ++ xs) (take-suc-set buffer added c h) ∙ sym (append_assoc front (take added buffer) (c ∷ [])))

-- if no more characters are taken than were put, all taken characters were put
pub taken_from_added : (front buffer : List ℕ) (added count : ℕ) → added ≤ length buffer → count ≤ added
    → front ++ take (added - count) buffer ≡ without_last count (front ++ take added buffer)
taken_from_added front buffer added count few h =
    let place : length (front ++ take added buffer) - count ≡ length front + (added - count)
    = omega (arith, length-append front (take added buffer), length-take added buffer) in
    ap (λ (xs : List ℕ). front ++ xs) (sym (take-take (added - count) added buffer (omega arith)))
    ∙ (sym (take-append-add front (take added buffer) (added - count))
    ∙ ap (λ (n : ℕ). take n (front ++ take added buffer)) (sym place))

-- if more characters are taken than were put, the other ones are taken from the borrowed text
pub taken_from_lent : (lent buffer : List ℕ) (stands added count : ℕ) → stands ≤ length lent → added ≤ length buffer → added < count → count ≤ stands + added
    → take (stands - (count - added)) lent ++ take 0 buffer ≡ without_last count (take stands lent ++ take added buffer)
taken_from_lent lent buffer stands added count within few more h =
    let place : length (take stands lent ++ take added buffer) - count ≡ stands - (count - added)
    = omega (arith, length-append (take stands lent) (take added buffer), length-take added buffer, length-take stands lent) in
    append-nil (take (stands - (count - added)) lent)
    ∙ (sym (take-take (stands - (count - added)) stands lent (omega arith))
    ∙ (sym (take-append-le (stands - (count - added)) (take stands lent) (take added buffer) (omega (arith, length-take stands lent)))
    ∙ ap (λ (n : ℕ). take n (take stands lent ++ take added buffer)) (sym place)))

-- the common prefix of two texts with the same front is the front and the common prefix of the rests
common_front : (front old new : List ℕ) → common_prefix (front ++ old) (front ++ new) ≡ length front + common_prefix old new
common_front [] old new = omega arith
common_front (c ∷ front) old new =
    let behind = common_front front old new in
    let one : common_prefix (c ∷ (front ++ old)) (c ∷ (front ++ new)) ≡ 1 + common_prefix (front ++ old) (front ++ new)
    = cond-true (nat_eq c c) (1 + common_prefix (front ++ old) (front ++ new)) 0 (eq-eqb c c refl) in
    omega arith

common_with_standing : (lent added : List ℕ) (stands : ℕ) → stands ≤ length lent
    → common_prefix lent (take stands lent ++ added) ≡ stands + common_prefix (drop stands lent) added
common_with_standing lent added stands h =
    let count : length (take stands lent) ≡ stands = length-take stands lent ∙ omega arith in
    ap (λ (xs : List ℕ). common_prefix xs (take stands lent ++ added)) (sym (take-append-drop stands lent))
    ∙ (common_front (take stands lent) (drop stands lent) added
    ∙ ap (λ (n : ℕ). n + common_prefix (drop stands lent) added) count)

-- the number of characters deleted from the borrowed text
pub edit_deletes : (lent added : List ℕ) (stands : ℕ) → stands ≤ length lent
    → length (drop stands lent) - common_prefix (drop stands lent) added ≡ length lent - common_prefix lent (take stands lent ++ added)
edit_deletes lent added stands h = omega (arith, common_with_standing lent added stands h, length-drop stands lent)

-- the characters that are inserted
pub edit_inserts : (lent added : List ℕ) (stands : ℕ) → stands ≤ length lent
    → drop (common_prefix (drop stands lent) added) added ≡ drop (common_prefix lent (take stands lent ++ added)) (take stands lent ++ added)
edit_inserts lent added stands h =
    let count : length (take stands lent) ≡ stands = length-take stands lent ∙ omega arith in
    let k : ℕ = common_prefix (drop stands lent) added in
    let far : drop (length (take stands lent) + k) (take stands lent ++ added) ≡ drop k added = drop-append-add (take stands lent) added k in
    sym far ∙ (ap (λ (n : ℕ). drop (n + k) (take stands lent ++ added)) count
    ∙ ap (λ (n : ℕ). drop n (take stands lent ++ added)) (sym (common_with_standing lent added stands h)))
