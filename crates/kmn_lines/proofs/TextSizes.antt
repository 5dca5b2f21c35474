-- The sizes of tokens, and the bytes of words.
use Rattle.std.proofs.Common.{◌≡◌, ℕ, zero, suc, ◌+◌, ◌<◌, ◌≤◌, Bool, true, false, ◌&&◌, ◌||◌, not, if◌then◌else◌, ◌==◌, List, [], ◌∷◌, length, take, drop, Option, None, Some, is_some, refl, sym, ◌∙◌, ap, subst, arith, length-drop}
use Rattle.std.specs.Prelude.{◌≢◌, nat_le, All, unwrap_or}
use Rattle.std.proofs.lemmas.Bool.{ne_eqb, leb-true, not-true, cond-false, and_parts, or_parts, or_from, and_left, cond_both}
use Rattle.std.proofs.lemmas.List.Elements.{All-cons, All-nil}
use Rattle.kmn_base.specs.Bytes.{is_blank, is_quote, hex_digit}
use Rattle.kmn_lines.specs.Bytes.{first_or_end}
use Rattle.kmn_lines.specs.Tokens.{single, is_unequal, in_word, word_size, quoted_size, starts_number, token_size, plain_kind, token_kind}
use Rattle.kmn_lines.specs.Laws.{IsPlain}
use Rattle.kmn_lines.specs.declared.token.TokenKind.{TokenKind}
use Rattle.kmn_lines.specs.declared.token.TokenKind.TheVariants.{Quoted, Number, Word, Unequal}

-- if a property is true for each element of both branches, it is true for each element of the selected one
pub all-if : {A : Type 0} (P : A → Type 0) (b : Bool) (xs ys : List A) → All P xs → All P ys → All P (if b then xs else ys)
all-if P true xs ys g h = g
all-if P false xs ys g h = h

pub none_of : (a b c d : Bool) → a ≡ false → b ≡ false → c ≡ false → d ≡ false → not (a || b || c || d) ≡ true
none_of true b c d e f g h = cc
none_of false true c d e f g h = cc
none_of false false true d e f g h = cc
none_of false false false true e f g h = cc
none_of false false false false e f g h = refl

pub in_word-plain : (byte next : ℕ) → in_word byte next ≡ true → IsPlain byte
unfolding in_word
in_word-plain byte next h =
    let none = or_parts (is_blank byte || is_quote byte || is_some (single byte)) (is_unequal byte next) (not-true _ h) in
    let two = or_parts (is_blank byte || is_quote byte) (is_some (single byte)) none.0 in
    let one = or_parts (is_blank byte) (is_quote byte) two.0 in
    record { blank = one.0; quote = one.1; alone = two.1 }

pub in_word-from : (byte next : ℕ) → is_blank byte ≡ false → is_quote byte ≡ false → is_some (single byte) ≡ false → is_unequal byte next ≡ false → in_word byte next ≡ true
unfolding in_word
in_word-from byte next e f g h = none_of (is_blank byte) (is_quote byte) (is_some (single byte)) (is_unequal byte next) e f g h

pub word_size-within : (text : List ℕ) → word_size text ≤ length text
word_size-within [] = omega arith
word_size-within (byte ∷ bytes) =
    let shorter = word_size-within bytes in
    cond_both (in_word byte (first_or_end bytes)) _ _ (λ n. n ≤ suc (length bytes)) (λ e. omega arith) (λ e. omega arith)

pub quoted_size-within : (quote : ℕ) (text : List ℕ) → quoted_size quote text ≤ length text
quoted_size-within quote [] = omega arith
quoted_size-within quote (byte ∷ bytes) =
    let shorter = quoted_size-within quote bytes in
    cond_both (byte == quote) _ _ (λ n. n ≤ suc (length bytes)) (λ e. omega arith) (λ e. omega arith)

pub take-one : (n byte : ℕ) (bytes : List ℕ) → take (1 + n) (byte ∷ bytes) ≡ byte ∷ take n bytes
take-one n byte bytes = let e : 1 + n ≡ suc n = omega arith in ap (λ (k : ℕ). take k (byte ∷ bytes)) e

-- each byte of a word is plain
pub word_plain : (text : List ℕ) → All IsPlain (take (word_size text) text)
word_plain [] = All-nil IsPlain
word_plain (byte ∷ bytes) =
    cond_both (in_word byte (first_or_end bytes)) (1 + word_size bytes) 0 (λ n. All IsPlain (take n (byte ∷ bytes)))
    (λ e. subst (All IsPlain) (sym (take-one (word_size bytes) byte bytes)) (All-cons IsPlain byte _ (in_word-plain byte (first_or_end bytes) e) (word_plain bytes)))
    (λ e. All-nil IsPlain)

pub number-long : (text : List ℕ) → starts_number text ≡ true → 3 ≤ length text
number-long [] h = absurd cc
number-long (a ∷ []) h = absurd cc
number-long (a ∷ b ∷ []) h = absurd cc
number-long (a ∷ b ∷ c ∷ bytes) h = omega arith

pub unequal-long : (byte : ℕ) (bytes : List ℕ) → is_unequal byte (first_or_end bytes) ≡ true → 1 ≤ length bytes
unequal-long byte [] h = let e = and_parts (byte == 33) false h in absurd cc
unequal-long byte (b ∷ bytes) h = omega arith

-- a token is no longer than its text
pub token_size-within : (text : List ℕ) → 0 < length text → token_size text ≤ length text
unfolding token_size
token_size-within [] h = absurd (omega arith)
token_size-within (byte ∷ bytes) h =
    let text : List ℕ = byte ∷ bytes in
    let fits : ℕ → Type 0 = λ n. n ≤ suc (length bytes) in
    cond_both (starts_number text) (2 + word_size (drop 2 text)) _ fits
    (λ e. let l : 3 ≤ suc (length bytes) = number-long text e in let w = word_size-within (drop 2 text) in omega (arith, length-drop 2 text))
    (λ e. cond_both (is_quote byte) _ _ fits (λ e. let w = quoted_size-within byte bytes in omega arith)
    (λ e. cond_both (is_unequal byte (first_or_end bytes)) _ _ fits (λ e. let l = unequal-long byte bytes e in omega arith)
    (λ e. cond_both (is_some (single byte)) _ _ fits (λ e. omega arith) (λ e. word_size-within text))))

-- a text that does not begin with a blank begins with a token of at least one byte
pub token_size-some : (text : List ℕ) → 0 < length text → is_blank (first_or_end text) ≡ false → 0 < token_size text
unfolding token_size
token_size-some [] h blank = absurd (omega arith)
token_size-some (byte ∷ bytes) h blank =
    let text : List ℕ = byte ∷ bytes in
    let some : ℕ → Type 0 = λ n. 0 < n in
    cond_both (starts_number text) (2 + word_size (drop 2 text)) _ some (λ e. omega arith)
    (λ e. cond_both (is_quote byte) _ _ some (λ e. omega arith)
    (λ quote. cond_both (is_unequal byte (first_or_end bytes)) _ _ some (λ e. omega arith)
    (λ unequal. cond_both (is_some (single byte)) _ _ some (λ e. omega arith)
    (λ alone. cond_both (in_word byte (first_or_end bytes)) _ _ some (λ e. omega arith)
    (λ e. let w = in_word-from byte (first_or_end bytes) blank quote alone unequal in absurd cc)))))

pub not_number-take : (n : ℕ) (text : List ℕ) → starts_number text ≡ false → starts_number (take n text) ≡ false
not_number-take zero text h = refl
not_number-take (suc n) [] h = refl
not_number-take (suc n) (a ∷ []) h = elim n as (λ k. starts_number (take (suc k) (a ∷ [])) ≡ false) [ zero ↦ refl | suc m ↦ refl ]
not_number-take (suc zero) (a ∷ b ∷ bytes) h = refl
not_number-take (suc (suc n)) (a ∷ b ∷ []) h = elim n as (λ k. starts_number (take (suc (suc k)) (a ∷ b ∷ [])) ≡ false) [ zero ↦ refl | suc m ↦ refl ]
not_number-take (suc (suc zero)) (a ∷ b ∷ c ∷ bytes) h = refl
not_number-take (suc (suc (suc n))) (a ∷ b ∷ c ∷ bytes) h = h

pub number-take : (n : ℕ) (text : List ℕ) → 3 ≤ n → starts_number (take n text) ≡ starts_number text
number-take n [] h = elim n as (λ k. starts_number (take k []) ≡ false) [ zero ↦ refl | suc m ↦ refl ]
number-take zero (a ∷ bytes) h = absurd (omega arith)
number-take (suc zero) (a ∷ bytes) h = absurd (omega arith)
number-take (suc (suc zero)) (a ∷ bytes) h = absurd (omega arith)
number-take (suc (suc (suc n))) (a ∷ []) h = refl
number-take (suc (suc (suc n))) (a ∷ b ∷ []) h = refl
number-take (suc (suc (suc n))) (a ∷ b ∷ c ∷ bytes) h = refl

none-if : (b : Bool) (x y : Option TokenKind) → b ≡ false → is_some y ≡ false → is_some (if b then x else y) ≡ false
none-if true x y e h = absurd cc
none-if false x y e h = h

pub in_word-far : (byte next : ℕ) → 48 ≤ byte → byte ≢ 61 → byte ≢ 62 → byte ≢ 91 → byte ≢ 93 → in_word byte next ≡ true
in_word-far byte next low e f g h =
    in_word-from byte next
    (or_from (byte == 32) (byte == 9) (ne_eqb byte 32 (omega arith)) (ne_eqb byte 9 (omega arith)))
    (or_from (byte == 34) (byte == 39) (ne_eqb byte 34 (omega arith)) (ne_eqb byte 39 (omega arith)))
    (none-if (byte == 40) _ _ (ne_eqb byte 40 (omega arith)) (none-if (byte == 41) _ _ (ne_eqb byte 41 (omega arith))
    (none-if (byte == 91) _ _ (ne_eqb byte 91 g) (none-if (byte == 93) _ _ (ne_eqb byte 93 h)
    (none-if (byte == 62) _ _ (ne_eqb byte 62 f) (none-if (byte == 43) _ _ (ne_eqb byte 43 (omega arith))
    (none-if (byte == 61) _ _ (ne_eqb byte 61 e) (none-if (byte == 44) _ _ (ne_eqb byte 44 (omega arith)) refl))))))))
    (and_left (byte == 33) (next == 61) (ne_eqb byte 33 (omega arith)))

pub in-range : (low high byte : ℕ) → (nat_le low byte && nat_le byte high) ≡ true → (low ≤ byte) × (byte ≤ high)
in-range low high byte h = let both = and_parts (nat_le low byte) (nat_le byte high) h in (leb-true low byte both.0, leb-true byte high both.1)

pub some-both : {G : Type 0} (b : Bool) (x : ℕ) (y : Option ℕ) → (b ≡ true → G) → (is_some y ≡ true → G) → is_some (if b then Some x else y) ≡ true → G
some-both true x y g h e = g refl
some-both false x y g h e = h e

-- a hexadecimal digit is a byte of a word
hex-in_word : (byte next : ℕ) → is_some (hex_digit byte) ≡ true → in_word byte next ≡ true
hex-in_word byte next =
    some-both (nat_le 48 byte && nat_le byte 57) _ _ (λ e. let r = in-range 48 57 byte e in in_word-far byte next (omega arith) (omega arith) (omega arith) (omega arith) (omega arith))
    (some-both (nat_le 65 byte && nat_le byte 70) _ _ (λ e. let r = in-range 65 70 byte e in in_word-far byte next (omega arith) (omega arith) (omega arith) (omega arith) (omega arith))
    (some-both (nat_le 97 byte && nat_le byte 102) _ _ (λ e. let r = in-range 97 102 byte e in in_word-far byte next (omega arith) (omega arith) (omega arith) (omega arith) (omega arith))
    (λ e. absurd cc)))

single-both : (b : Bool) (x y : Option TokenKind) → (x ≡ Some Word → ⊥) → (y ≡ Some Word → ⊥) → (if b then x else y) ≡ Some Word → ⊥
single-both true x y g h e = g e
single-both false x y g h e = h e

single-no_word : (byte : ℕ) → single byte ≡ Some Word → ⊥
single-no_word byte =
    single-both (byte == 40) _ _ (λ e. absurd cc) (single-both (byte == 41) _ _ (λ e. absurd cc)
    (single-both (byte == 91) _ _ (λ e. absurd cc) (single-both (byte == 93) _ _ (λ e. absurd cc)
    (single-both (byte == 62) _ _ (λ e. absurd cc) (single-both (byte == 43) _ _ (λ e. absurd cc)
    (single-both (byte == 61) _ _ (λ e. absurd cc) (single-both (byte == 44) _ _ (λ e. absurd cc) (λ e. absurd cc))))))))

single-kind : (o : Option TokenKind) → is_some o ≡ true → unwrap_or o Word ≡ Word → o ≡ Some Word
single-kind None h e = absurd cc
single-kind (Some k) h e = ap Some e

chosen-number : (b : Bool) (n : ℕ) (k : TokenKind) → b ≡ true → (if b then Number n else k) ≡ Word → ⊥
chosen-number true n k e h = cc
chosen-number false n k e h = cc

number-no_word : (text : List ℕ) → starts_number text ≡ true → token_kind text ≡ Word → ⊥
unfolding token_kind
number-no_word text = chosen-number (starts_number text) _ _

kind-plain : (text : List ℕ) → starts_number text ≡ false → token_kind text ≡ plain_kind (first_or_end text) (first_or_end (drop 1 text))
unfolding token_kind
kind-plain text = cond-false (starts_number text) _ _

chosen-word : (q u : Bool) (k : TokenKind) → (if q then Quoted else (if u then Unequal else k)) ≡ Word → (q ≡ false) × (u ≡ false) × (k ≡ Word)
chosen-word true u k h = absurd cc
chosen-word false true k h = absurd cc
chosen-word false false k h = (refl, refl, h)

word-first : (m byte : ℕ) (bytes : List ℕ) → starts_number (byte ∷ bytes) ≡ false → token_kind (byte ∷ take m bytes) ≡ Word → (is_quote byte ≡ false) × (is_unequal byte (first_or_end (take m bytes)) ≡ false) × (unwrap_or (single byte) Word ≡ Word)
word-first m byte bytes number h =
    let none : starts_number (byte ∷ take m bytes) ≡ false = not_number-take (suc m) (byte ∷ bytes) number in
    chosen-word (is_quote byte) (is_unequal byte (first_or_end (take m bytes))) (unwrap_or (single byte) Word) (sym (kind-plain (byte ∷ take m bytes) none) ∙ h)

pub number-digit : (text : List ℕ) → starts_number text ≡ true → 3 ≤ 2 + word_size (drop 2 text)
number-digit [] h = absurd cc
number-digit (a ∷ []) h = absurd cc
number-digit (a ∷ b ∷ []) h = absurd cc
number-digit (a ∷ b ∷ c ∷ bytes) h =
    let digit = and_parts (((a == 85) || (a == 117)) && (b == 43)) (is_some (hex_digit c)) h in
    let some : 0 < word_size (c ∷ bytes) = cond_both (in_word c (first_or_end bytes)) _ _ (λ n. 0 < n) (λ e. omega arith) (λ e. let w = hex-in_word c (first_or_end bytes) digit.1 in absurd cc) in
    omega arith

pub first-take : (bytes : List ℕ) → first_or_end (take 1 bytes) ≡ first_or_end bytes
first-take [] = refl
first-take (byte ∷ bytes) = refl

pub clash : {X : Type 0} (b : Bool) → b ≡ true → b ≡ false → X
clash b e f = let h : true ≡ false = sym e ∙ f in absurd cc

-- the token at the beginning of a text is a word only if each of its bytes is plain
pub words_plain : (text : List ℕ) → 0 < length text → token_kind (take (token_size text) text) ≡ Word → All IsPlain (take (token_size text) text)
unfolding token_size
words_plain [] h = absurd (omega arith)
words_plain (byte ∷ bytes) h =
    let text : List ℕ = byte ∷ bytes in
    let goal : ℕ → Type 0 = λ n. token_kind (take n text) ≡ Word → All IsPlain (take n text) in
    cond_both (starts_number text) (2 + word_size (drop 2 text)) _ goal
    (λ e w. absurd (number-no_word _ (number-take (2 + word_size (drop 2 text)) text (number-digit text e) ∙ e) w))
    (λ number. cond_both (is_quote byte) (1 + quoted_size byte bytes) _ goal
    (λ e w. clash (is_quote byte) e (word-first (quoted_size byte bytes) byte bytes number (ap token_kind (sym (take-one (quoted_size byte bytes) byte bytes)) ∙ w)).0)
    (λ quote. cond_both (is_unequal byte (first_or_end bytes)) 2 _ goal
    (λ e w. clash (is_unequal byte (first_or_end (take 1 bytes))) (ap (is_unequal byte) (first-take bytes) ∙ e) (word-first 1 byte bytes number w).1)
    (λ unequal. cond_both (is_some (single byte)) 1 (word_size text) goal
    (λ e w. absurd (single-no_word byte (single-kind (single byte) e (word-first 0 byte bytes number w).2)))
    (λ alone w. word_plain text))))
