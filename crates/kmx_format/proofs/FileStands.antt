-- Bytes at a position of a file, and the numbers among them.
use Rattle.std.proofs.Common.{◌≡◌, ℕ, zero, suc, ◌+◌, ◌-◌, ◌*◌, ◌^◌, ◌<◌, ◌≤◌, List, [], ◌∷◌, ◌++◌, length, take, drop, get_or, refl, sym, ap, subst, ◌∙◌, append_assoc, append-nil, length-append, length-drop, arith, true, le-leb, leb}
use Rattle.std.specs.Int.{w16, w32, to_le_bytes}
use Rattle.std.proofs.lemmas.List.{drop-drop, drop_at, take_at}
use Rattle.std.proofs.lemmas.Nat.{from_le_bytes-to_le_bytes_2, from_le_bytes-to_le_bytes_4}
use Rattle.kmx_format.specs.File.{half, word, words}
use Rattle.kmx_format.specs.TablesOf.{half_at, word_at}

-- the bytes have xs at the position, whatever follows
pub record StandsAt (bytes : List ℕ) (place : ℕ) (xs : List ℕ) : Type 0 where
  pub rest : List ℕ
  pub is : drop place bytes ≡ xs ++ rest
  pub within : place ≤ length bytes

pub whole : (bytes : List ℕ) → StandsAt bytes 0 bytes
whole bytes = record { rest = []; is = sym (append-nil bytes); within = omega arith }

-- the bytes at a position are within the file
pub end_within : (bytes : List ℕ) (place : ℕ) (xs : List ℕ) → StandsAt bytes place xs → place + length xs ≤ length bytes
end_within bytes place xs h =
    let lengths : length bytes - place ≡ length xs + length h.rest = sym (length-drop place bytes) ∙ ap length h.is ∙ length-append xs h.rest in
    omega (arith, h.within)

pub front : (bytes : List ℕ) (place : ℕ) (xs ys : List ℕ) → StandsAt bytes place (xs ++ ys) → StandsAt bytes place xs
front bytes place xs ys h = record { rest = ys ++ h.rest; is = h.is ∙ append_assoc xs ys h.rest; within = h.within }

pub back : (bytes : List ℕ) (place : ℕ) (xs ys : List ℕ) → StandsAt bytes place (xs ++ ys) → StandsAt bytes (place + length xs) ys
back bytes place xs ys h = record {
  rest = h.rest;
  is = sym (drop-drop (length xs) place bytes) ∙ ap (drop (length xs)) (h.is ∙ append_assoc xs ys h.rest) ∙ drop_at xs (ys ++ h.rest) (length xs) refl;
  within = omega (arith, end_within bytes place (xs ++ ys) h, length-append xs ys);
}

pub same_place : (bytes : List ℕ) (p q : ℕ) (xs : List ℕ) → p ≡ q → StandsAt bytes p xs → StandsAt bytes q xs
same_place bytes p q xs e h = subst (λ (place : ℕ). StandsAt bytes place xs) e h

pub same_bytes : (bytes : List ℕ) (p : ℕ) (xs ys : List ℕ) → xs ≡ ys → StandsAt bytes p xs → StandsAt bytes p ys
same_bytes bytes p xs ys e h = subst (λ (zs : List ℕ). StandsAt bytes p zs) e h

pub length-half : (n : ℕ) → length (half n) ≡ 2
unfolding half
length-half n = refl

pub length-word : (n : ℕ) → length (word n) ≡ 4
unfolding word
length-word n = refl

pub length-words : (ns : List ℕ) → length (words ns) ≡ 4 * length ns
length-words [] = refl
length-words (n ∷ ns) = length-append (word n) (words ns) ∙ omega (arith, length-word n, length-words ns)

pub half_at-stands : (bytes : List ℕ) (place n : ℕ) → n < 2 ^ 16 → StandsAt bytes place (half n) → half_at bytes place ≡ n
unfolding half_at half
half_at-stands bytes place n below h =
    let inside : leb (place + 2) (length bytes) ≡ true = le-leb _ _ (end_within bytes place (half n) h) in
    let at : take 2 (drop place bytes) ≡ to_le_bytes w16 n = ap (take 2) h.is ∙ take_at (to_le_bytes w16 n) h.rest 2 refl in
    rw (inside, at) (from_le_bytes-to_le_bytes_2 n below)

pub word_at-stands : (bytes : List ℕ) (place n : ℕ) → n < 2 ^ 32 → StandsAt bytes place (word n) → word_at bytes place ≡ n
unfolding word_at word
word_at-stands bytes place n below h =
    let inside : leb (place + 4) (length bytes) ≡ true = le-leb _ _ (end_within bytes place (word n) h) in
    let at : take 4 (drop place bytes) ≡ to_le_bytes w32 n = ap (take 4) h.is ∙ take_at (to_le_bytes w32 n) h.rest 4 refl in
    rw (inside, at) (from_le_bytes-to_le_bytes_4 n below)

-- each of several words comes after those before it
pub nth_word : (bytes : List ℕ) (place : ℕ) (ns : List ℕ) (i : ℕ) → i < length ns → StandsAt bytes place (words ns) → StandsAt bytes (place + 4 * i) (word (get_or ns i 0))
nth_word bytes place [] i below h = absurd (omega arith)
nth_word bytes place (n ∷ ns) zero below h =
    same_place bytes place (place + 4 * 0) (word n) (omega arith) (front bytes place (word n) (words ns) h)
nth_word bytes place (n ∷ ns) (suc i) below h =
    let behind : StandsAt bytes (place + 4) (words ns) = same_place bytes (place + length (word n)) (place + 4) (words ns) (omega (arith, length-word n)) (back bytes place (word n) (words ns) h) in
    same_place bytes (place + 4 + 4 * i) (place + 4 * suc i) (word (get_or ns i 0)) (omega arith) (nth_word bytes (place + 4) ns i (omega arith) behind)

pub first_word_at : (bytes : List ℕ) (place n : ℕ) (ns : List ℕ) → n < 2 ^ 32 → StandsAt bytes place (words (n ∷ ns)) → word_at bytes place ≡ n
first_word_at bytes place n ns below h = word_at-stands bytes place n below (front bytes place (word n) (words ns) h)

pub nth_word_at : (bytes : List ℕ) (place : ℕ) (ns : List ℕ) (i : ℕ) → i < length ns → get_or ns i 0 < 2 ^ 32 → StandsAt bytes place (words ns) → word_at bytes (place + 4 * i) ≡ get_or ns i 0
nth_word_at bytes place ns i inside below h = word_at-stands bytes (place + 4 * i) (get_or ns i 0) below (nth_word bytes place ns i inside h)
