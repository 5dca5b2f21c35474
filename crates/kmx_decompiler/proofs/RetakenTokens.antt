-- The text of a token is one token: by itself it has the same size as with the text that followed it.
use Rattle.std.proofs.Common.{◌≡◌, ℕ, zero, suc, ◌+◌, ◌<◌, ◌≤◌, Bool, true, false, ◌==◌, if◌then◌else◌, List, [], ◌∷◌, length, take, drop, is_some, refl, sym, ◌∙◌, ap, subst, arith}
use Rattle.std.proofs.lemmas.Bool.{and_right, cond-true, cond-false, cond_both}
use Rattle.std.proofs.lemmas.List.{length-take-le}
use Rattle.kmn_base.specs.Bytes.{is_quote}
use Rattle.kmn_lines.specs.Bytes.{first_or_end}
use Rattle.kmn_lines.specs.Tokens.{single, is_unequal, in_word, word_size, quoted_size, starts_number, plain_size, token_size}
use Rattle.kmn_lines.proofs.TextSizes.{take-one, in_word-plain, in_word-from, token_size-within, not_number-take, number-take, number-digit, first-take}

-- if a byte is part of a word, it is still part of a word where the text is cut off
word-cut : (byte m : ℕ) (bytes : List ℕ) → in_word byte (first_or_end bytes) ≡ true → in_word byte (first_or_end (take m bytes)) ≡ true
word-cut byte zero bytes h = let plain = in_word-plain byte (first_or_end bytes) h in in_word-from byte 10 plain.blank plain.quote plain.alone (and_right (byte == 33) false refl)
word-cut byte (suc m) [] h = h
word-cut byte (suc m) (next ∷ bytes) h = h

-- if a byte does not begin a `!=`, it does not begin one where the text is cut off
unequal-cut : (byte m : ℕ) (bytes : List ℕ) → is_unequal byte (first_or_end bytes) ≡ false → is_unequal byte (first_or_end (take m bytes)) ≡ false
unequal-cut byte zero bytes h = and_right (byte == 33) false refl
unequal-cut byte (suc m) [] h = h
unequal-cut byte (suc m) (next ∷ bytes) h = h

word-again : (text : List ℕ) → word_size (take (word_size text) text) ≡ word_size text
word-again [] = refl
word-again (byte ∷ bytes) =
    cond_both (in_word byte (first_or_end bytes)) (1 + word_size bytes) 0 (λ n. word_size (take n (byte ∷ bytes)) ≡ n)
    (λ e.
    let m : ℕ = word_size bytes in
    ap word_size (take-one m byte bytes)
    ∙ (cond-true (in_word byte (first_or_end (take m bytes))) (1 + word_size (take m bytes)) 0 (word-cut byte m bytes e) ∙ ap (λ (n : ℕ). 1 + n) (word-again bytes)))
    (λ e. refl)

quoted-again : (quote : ℕ) (text : List ℕ) → quoted_size quote (take (quoted_size quote text) text) ≡ quoted_size quote text
quoted-again quote [] = refl
quoted-again quote (byte ∷ bytes) =
    cond_both (byte == quote) 1 (1 + quoted_size quote bytes) (λ n. quoted_size quote (take n (byte ∷ bytes)) ≡ n)
    (λ e. cond-true (byte == quote) 1 (1 + quoted_size quote []) e)
    (λ e.
    let m : ℕ = quoted_size quote bytes in
    ap (quoted_size quote) (take-one m byte bytes)
    ∙ (cond-false (byte == quote) 1 (1 + quoted_size quote (take m bytes)) e ∙ ap (λ (n : ℕ). 1 + n) (quoted-again quote bytes)))

-- the size of a token, by what it begins with
size-number : (text : List ℕ) → starts_number text ≡ true → token_size text ≡ 2 + word_size (drop 2 text)
unfolding token_size
size-number text e = cond-true (starts_number text) (2 + word_size (drop 2 text)) (plain_size text) e

pub size_plain : (text : List ℕ) → starts_number text ≡ false → token_size text ≡ plain_size text
unfolding token_size
size_plain text e = cond-false (starts_number text) (2 + word_size (drop 2 text)) (plain_size text) e

module _ (byte : ℕ) (bytes : List ℕ) where
  abbrev unequal : Bool
  unequal = is_unequal byte (first_or_end bytes)

  abbrev rest : ℕ
  rest = if unequal then 2 else (if is_some (single byte) then 1 else word_size (byte ∷ bytes))

  pub size_quote : is_quote byte ≡ true → plain_size (byte ∷ bytes) ≡ 1 + quoted_size byte bytes
  size_quote e = cond-true (is_quote byte) (1 + quoted_size byte bytes) rest e

  size-rest : is_quote byte ≡ false → plain_size (byte ∷ bytes) ≡ rest
  size-rest e = cond-false (is_quote byte) (1 + quoted_size byte bytes) rest e

  size-unequal : is_quote byte ≡ false → unequal ≡ true → plain_size (byte ∷ bytes) ≡ 2
  size-unequal e f = size-rest e ∙ cond-true unequal 2 (if is_some (single byte) then 1 else word_size (byte ∷ bytes)) f

  size-single : is_quote byte ≡ false → unequal ≡ false → is_some (single byte) ≡ true → plain_size (byte ∷ bytes) ≡ 1
  size-single e f g =
      size-rest e ∙ (cond-false unequal 2 (if is_some (single byte) then 1 else word_size (byte ∷ bytes)) f ∙ cond-true (is_some (single byte)) 1 (word_size (byte ∷ bytes)) g)

  size-word : is_quote byte ≡ false → unequal ≡ false → is_some (single byte) ≡ false → plain_size (byte ∷ bytes) ≡ word_size (byte ∷ bytes)
  size-word e f g =
      size-rest e ∙ (cond-false unequal 2 (if is_some (single byte) then 1 else word_size (byte ∷ bytes)) f ∙ cond-false (is_some (single byte)) 1 (word_size (byte ∷ bytes)) g)

-- if a text starts with a number, the number by itself has the same size
number-again : (text : List ℕ) → starts_number text ≡ true → token_size (take (2 + word_size (drop 2 text)) text) ≡ 2 + word_size (drop 2 text)
number-again [] e = absurd (cc)
number-again (a ∷ []) e = absurd (cc)
number-again (a ∷ b ∷ bytes) e =
    let m : ℕ = word_size bytes in
    let n : 2 + m ≡ suc (suc m) = omega arith in
    let long : 3 ≤ 2 + m = number-digit (a ∷ b ∷ bytes) e in
    let begun : starts_number (a ∷ b ∷ take m bytes) ≡ true = number-take (suc (suc m)) (a ∷ b ∷ bytes) (omega (arith, long)) ∙ e in
    let whole : token_size (a ∷ b ∷ take m bytes) ≡ 2 + word_size (take m bytes) = size-number (a ∷ b ∷ take m bytes) begun in
    ap (λ (k : ℕ). token_size (take k (a ∷ b ∷ bytes))) n ∙ (whole ∙ ap (λ (k : ℕ). 2 + k) (word-again bytes))

no-text : token_size [] ≡ 0
unfolding token_size
no-text = refl

plain-again : (byte : ℕ) (bytes : List ℕ) → starts_number (byte ∷ bytes) ≡ false → token_size (take (plain_size (byte ∷ bytes)) (byte ∷ bytes)) ≡ plain_size (byte ∷ bytes)
plain-again byte bytes number =
    let text : List ℕ = byte ∷ bytes in
    let Again : ℕ → Type 0 = λ n. token_size (take n text) ≡ n in
    cond_both (is_quote byte) (1 + quoted_size byte bytes) (rest byte bytes) Again
    (λ quote.
    let m : ℕ = quoted_size byte bytes in
    ap token_size (take-one m byte bytes)
    ∙ (size_plain (byte ∷ take m bytes) (not_number-take (suc m) text number) ∙ (size_quote byte (take m bytes) quote ∙ ap (λ (n : ℕ). 1 + n) (quoted-again byte bytes))))
    (λ quote. cond_both (unequal byte bytes) 2 _ Again
    (λ differs.
    size_plain (take 2 text) (not_number-take 2 text number)
    ∙ size-unequal byte (take 1 bytes) quote (ap (is_unequal byte) (first-take bytes) ∙ differs))
    (λ alike. cond_both (is_some (single byte)) 1 (word_size text) Again
    (λ alone. size_plain (byte ∷ []) refl ∙ size-single byte [] quote (and_right (byte == 33) false refl) alone)
    (λ other. cond_both (in_word byte (first_or_end bytes)) (1 + word_size bytes) 0 Again
    (λ in_it.
    let m : ℕ = word_size bytes in
    ap token_size (take-one m byte bytes)
    ∙ (size_plain (byte ∷ take m bytes) (not_number-take (suc m) text number)
    ∙ (size-word byte (take m bytes) quote (unequal-cut byte m bytes alike) other
    ∙ (cond-true (in_word byte (first_or_end (take m bytes))) (1 + word_size (take m bytes)) 0 (word-cut byte m bytes in_it) ∙ ap (λ (n : ℕ). 1 + n) (word-again bytes)))))
    (λ out. no-text))))

size-again : (text : List ℕ) → token_size (take (token_size text) text) ≡ token_size text
size-again [] = subst (λ (n : ℕ). token_size (take n []) ≡ n) (sym no-text) no-text
size-again (byte ∷ bytes) = by (starts_number (byte ∷ bytes)) refl
  where
    by : (b : Bool) → starts_number (byte ∷ bytes) ≡ b → token_size (take (token_size (byte ∷ bytes)) (byte ∷ bytes)) ≡ token_size (byte ∷ bytes)
    by true e = subst (λ (n : ℕ). token_size (take n (byte ∷ bytes)) ≡ n) (sym (size-number (byte ∷ bytes) e)) (number-again (byte ∷ bytes) e)
    by false e = subst (λ (n : ℕ). token_size (take n (byte ∷ bytes)) ≡ n) (sym (size_plain (byte ∷ bytes) e)) (plain-again byte bytes e)

-- the text of a token has the size of the token
pub token_alone : (text : List ℕ) → 0 < length text → token_size (take (token_size text) text) ≡ length (take (token_size text) text)
token_alone text some = size-again text ∙ sym (length-take-le (token_size text) text (token_size-within text some))
