-- Reading words of bytes in which a word is replaced.
use Rattle.std.proofs.Common.{◌≡◌, ℕ, ◌+◌, ◌-◌, ◌/◌, ◌%◌, ◌^◌, ◌<◌, ◌≤◌, Bool, true, false, leb, le-leb, List, [], ◌∷◌, ◌++◌, length, take, drop, refl, sym, ap, ap₂, subst, ◌∙◌, append_assoc, length-append, length-drop, arith}
use Rattle.std.specs.Prelude.{nat_le, if◌then◌else◌}
use Rattle.std.specs.Int.{w32, from_le_bytes}
use Rattle.std.proofs.lemmas.List.{drop-drop, drop_at, take-append-le, take-take, drop-take, length-take-le}
use Rattle.kmx_format.specs.File.{half, word}
use Rattle.kmx_format.specs.TablesOf.{half_at, word_at}
use Rattle.kmx_format.proofs.FileStands.{StandsAt, front, length-word, word_at-stands, half_at-stands}
use Rattle.file_conversions.specs.Words.{with_word}

pub is_replaced : (place number : ℕ) (bytes : List ℕ) → place + 4 ≤ length bytes → with_word place number bytes ≡ take place bytes ++ (word number ++ drop (place + 4) bytes)
unfolding with_word
is_replaced place number bytes within = ap (λ b. if b then take place bytes ++ (word number ++ drop (place + 4) bytes) else bytes) (le-leb _ _ within)

-- replacing a word does not change the number of bytes
length-replaced : (place number : ℕ) (bytes : List ℕ) → place + 4 ≤ length bytes → length (take place bytes ++ (word number ++ drop (place + 4) bytes)) ≡ length bytes
length-replaced place number bytes within =
    length-append (take place bytes) (word number ++ drop (place + 4) bytes)
    ∙ omega (arith, within, length-take-le place bytes (omega (arith, within)), length-append (word number) (drop (place + 4) bytes), length-word number, length-drop (place + 4) bytes)

either : (b : Bool) (xs ys : List ℕ) (P : List ℕ → Type 0) → (b ≡ true → P xs) → P ys → P (if b then xs else ys)
either true xs ys P p q = p refl
either false xs ys P p q = q

inside : (place size : ℕ) → leb place size ≡ true → place ≤ size
inside place size h = grind (arith, h)

-- if a property is true for the bytes, and for them with the word replaced if they contain it, it is true for `with_word`
by_place : (place number : ℕ) (bytes : List ℕ) (P : List ℕ → Type 0) → (place + 4 ≤ length bytes → P (take place bytes ++ (word number ++ drop (place + 4) bytes))) → P bytes → P (with_word place number bytes)
unfolding with_word
by_place place number bytes P p q =
    either (leb (place + 4) (length bytes)) (take place bytes ++ (word number ++ drop (place + 4) bytes)) bytes P (λ h. p (inside (place + 4) (length bytes) h)) q

pub length-with_word : (place number : ℕ) (bytes : List ℕ) → length (with_word place number bytes) ≡ length bytes
length-with_word place number bytes = by_place place number bytes (λ xs. length xs ≡ length bytes) (length-replaced place number bytes) refl

-- after the replacement, the word is at the place
stands_there : (place number : ℕ) (bytes : List ℕ) → place + 4 ≤ length bytes → StandsAt (with_word place number bytes) place (word number)
stands_there place number bytes within =
    let xs : List ℕ = take place bytes ++ (word number ++ drop (place + 4) bytes) in
    let stands : StandsAt xs place (word number) = record {
      rest = drop (place + 4) bytes;
      is = drop_at (take place bytes) (word number ++ drop (place + 4) bytes) place (length-take-le place bytes (omega (arith, within)));
      within = omega (arith, within, length-replaced place number bytes within);
    } in
    subst (λ (ys : List ℕ). StandsAt ys place (word number)) (sym (is_replaced place number bytes within)) stands

-- reading the replaced word returns the number
pub read_there : (place number : ℕ) (bytes : List ℕ) → number < 2 ^ 32 → place + 4 ≤ length bytes → word_at (with_word place number bytes) place ≡ number
read_there place number bytes below within = word_at-stands (with_word place number bytes) place number below (stands_there place number bytes within)

-- reading its lower half returns the number, if it fits
pub half_there : (place number : ℕ) (bytes : List ℕ) → number < 2 ^ 16 → place + 4 ≤ length bytes → half_at (with_word place number bytes) place ≡ number
unfolding half word
half_there place number bytes below within =
    half_at-stands (with_word place number bytes) place number below
    (front (with_word place number bytes) place (half number) ((number / 256 ^ 2 % 256) ∷ (number / 256 ^ 3 % 256) ∷ []) (stands_there place number bytes within))

-- if two lists of bytes have one length and the same four bytes at a place, they have the same word there
pub same_words : (xs ys : List ℕ) (place : ℕ) → length xs ≡ length ys → take 4 (drop place xs) ≡ take 4 (drop place ys) → word_at xs place ≡ word_at ys place
unfolding word_at
same_words xs ys place sizes same = ap₂ (λ (n : ℕ) (zs : List ℕ). if nat_le (place + 4) n then from_le_bytes w32 zs else 0) sizes same

-- the bytes before the word do not change
pub before_same : (place number n : ℕ) (bytes : List ℕ) → n ≤ place → take n (with_word place number bytes) ≡ take n bytes
before_same place number n bytes before = by_place place number bytes (λ xs. take n xs ≡ take n bytes)
    (λ within. take-append-le n (take place bytes) (word number ++ drop (place + 4) bytes) (omega (arith, before, within, length-take-le place bytes (omega (arith, within)))) ∙ take-take n place bytes before)
    refl

-- a word before it does not change
pub read_before : (place number at : ℕ) (bytes : List ℕ) → at + 4 ≤ place → word_at (with_word place number bytes) at ≡ word_at bytes at
read_before place number at bytes before =
    let xs : List ℕ = with_word place number bytes in
    same_words xs bytes at (length-with_word place number bytes)
    (sym (drop-take at 4 xs) ∙ ap (drop at) (before_same place number (at + 4) bytes before) ∙ drop-take at 4 bytes)

-- the bytes after the word do not change
pub behind_same : (place number n : ℕ) (bytes : List ℕ) → place + 4 ≤ n → drop n (with_word place number bytes) ≡ drop n bytes
behind_same place number n bytes behind = by_place place number bytes (λ xs. drop n xs ≡ drop n bytes)
    (λ within.
    let size : length (take place bytes ++ word number) ≡ place + 4 = length-append (take place bytes) (word number) ∙ omega (arith, length-word number, length-take-le place bytes (omega (arith, within))) in
    let split : n ≡ place + 4 + (n - (place + 4)) = omega (arith, behind) in
    let tail : drop (place + 4) (take place bytes ++ (word number ++ drop (place + 4) bytes)) ≡ drop (place + 4) bytes =
    ap (drop (place + 4)) (sym (append_assoc (take place bytes) (word number) (drop (place + 4) bytes))) ∙ drop_at (take place bytes ++ word number) (drop (place + 4) bytes) (place + 4) size in
    ap (λ k. drop k (take place bytes ++ (word number ++ drop (place + 4) bytes))) split
    ∙ sym (drop-drop (n - (place + 4)) (place + 4) (take place bytes ++ (word number ++ drop (place + 4) bytes)))
    ∙ ap (drop (n - (place + 4))) tail ∙ drop-drop (n - (place + 4)) (place + 4) bytes ∙ ap (λ k. drop k bytes) (sym split))
    refl

-- if a word is replaced twice, the second number remains
pub overwritten : (place first second : ℕ) (bytes : List ℕ) → place + 4 ≤ length bytes → with_word place second (with_word place first bytes) ≡ with_word place second bytes
overwritten place first second bytes within =
    is_replaced place second (with_word place first bytes) (omega (arith, within, length-with_word place first bytes))
    ∙ ap₂ (λ (xs ys : List ℕ). xs ++ (word second ++ ys)) (before_same place first place bytes (omega arith)) (behind_same place first (place + 4) bytes (omega arith))
    ∙ sym (is_replaced place second bytes within)
