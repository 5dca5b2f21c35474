-- The tokens of a UTF-8 text are UTF-8.
use Rattle.std.proofs.Common.{◌≡◌, ℕ, zero, suc, ◌+◌, ◌-◌, ◌<◌, ◌≤◌, ◌⊎◌, inl, inr, true, false, ◌==◌, List, [], ◌∷◌, length, take, drop, get_or, is_some, refl, sym, ◌∙◌, ap, subst, arith, length-drop}
use Rattle.std.specs.Prelude.{All, IsUtf8, IsCharBoundary}
use Rattle.std.proofs.lemmas.Bool.{eqb-true, cases_lt, and_parts, cond_both}
use Rattle.std.proofs.lemmas.List.{length-take, drop-take, take-take, get_or-drop}
use Rattle.std.proofs.lemmas.List.Elements.{All-cons, All-nil, All-append, All-weaker, All-head, All-tail}
use Rattle.std.proofs.lemmas.Str.{IsUtf8-take, IsUtf8-drop, IsCharBoundary-end, IsCharBoundary-before_ascii, IsCharBoundary-after_ascii}
use Rattle.kmn_base.specs.Bytes.{is_blank, is_quote}
use Rattle.kmn_lines.specs.Bytes.{first_or_end}
use Rattle.kmn_lines.specs.Tokens.{single, is_unequal, in_word, word_size, quoted_size, starts_number, token_size, token_at, scanned, part_text, parts_tokens}
use Rattle.kmn_lines.specs.Laws.{IsPlain, bytes_between}
use Rattle.kmn_lines.specs.declared.logical.Part.{Part}
use Rattle.kmn_lines.specs.declared.token.Token.{Token}
use Rattle.kmn_lines.proofs.TextSizes.{in_word-plain, in_word-far, word_size-within, quoted_size-within, number-long, unequal-long, token_size-within, token_size-some, clash}
use Rattle.kmn_lines.proofs.Numbered.{drop-next}

-- a byte past 127 belongs to a word
wide-in_word : (byte next : ℕ) → 128 ≤ byte → in_word byte next ≡ true
wide-in_word byte next h = in_word-far byte next (omega arith) (omega arith) (omega arith) (omega arith) (omega arith)

wide-plain : (byte : ℕ) → 128 ≤ byte → IsPlain byte
wide-plain byte h = in_word-plain byte 0 (wide-in_word byte 0 h)

unless-wide : (byte : ℕ) → (128 ≤ byte → ⊥) → byte < 128
unless-wide byte h = elim (cases_lt byte 128) [ inl l ↦ l | inr g ↦ absurd (h g) ]

pub blank-ascii : (byte : ℕ) → is_blank byte ≡ true → byte < 128
blank-ascii byte e = unless-wide byte (λ h. clash (is_blank byte) e (wide-plain byte h).blank)

pub quote-ascii : (byte : ℕ) → is_quote byte ≡ true → byte < 128
quote-ascii byte e = unless-wide byte (λ h. clash (is_quote byte) e (wide-plain byte h).quote)

single-ascii : (byte : ℕ) → is_some (single byte) ≡ true → byte < 128
single-ascii byte e = unless-wide byte (λ h. clash (is_some (single byte)) e (wide-plain byte h).alone)

outside-ascii : (byte next : ℕ) → in_word byte next ≡ false → byte < 128
outside-ascii byte next e = unless-wide byte (λ h. clash (in_word byte next) (wide-in_word byte next h) e)

-- the size of a token that ends one byte later

ends-later : (byte : ℕ) (bytes : List ℕ) (n : ℕ) → (n ≡ length bytes) ⊎ (get_or bytes n 0 < 128) → (1 + n ≡ suc (length bytes)) ⊎ (get_or (byte ∷ bytes) (1 + n) 0 < 128)
ends-later byte bytes n (inl e) = inl (omega arith)
ends-later byte bytes n (inr h) = let e : suc n ≡ 1 + n = omega arith in inr (subst (λ (k : ℕ). get_or (byte ∷ bytes) k 0 < 128) e h)

word_end : (text : List ℕ) → (word_size text ≡ length text) ⊎ (get_or text (word_size text) 0 < 128)
word_end [] = inl refl
word_end (byte ∷ bytes) =
    let rest = word_end bytes in
    cond_both (in_word byte (first_or_end bytes)) (1 + word_size bytes) 0 (λ n. (n ≡ suc (length bytes)) ⊎ (get_or (byte ∷ bytes) n 0 < 128))
    (λ e. ends-later byte bytes (word_size bytes) rest)
    (λ e. inr (outside-ascii byte (first_or_end bytes) e))

-- a quoted text ends at the end or after the closing quote
quoted_end : (quote : ℕ) (text : List ℕ) → (quoted_size quote text ≡ length text) ⊎ ((0 < quoted_size quote text) × (get_or text (quoted_size quote text - 1) 0 ≡ quote))
quoted_end quote [] = inl refl
quoted_end quote (byte ∷ bytes) =
    let rest = quoted_end quote bytes in
    cond_both (byte == quote) 1 (1 + quoted_size quote bytes) (λ n. (n ≡ suc (length bytes)) ⊎ ((0 < n) × (get_or (byte ∷ bytes) (n - 1) 0 ≡ quote)))
    (λ e. inr (omega arith, eqb-true byte quote e))
    (λ e. elim rest [
      | inl l ↦ inl (omega arith)
      | inr (h, g) ↦ (let k : suc (quoted_size quote bytes - 1) ≡ 1 + quoted_size quote bytes - 1 = omega arith in
          inr (omega arith, subst (λ (n : ℕ). get_or (byte ∷ bytes) n 0 ≡ quote) k g))
    ])

-- a position at the end or before an ASCII byte
pub boundary-before : (text : List ℕ) (i : ℕ) → i ≤ length text → (i ≡ length text) ⊎ (get_or text i 0 < 128) → IsCharBoundary text i
boundary-before text i h (inl e) = subst (IsCharBoundary text) (sym e) (IsCharBoundary-end text)
boundary-before text i h (inr g) = elim (cases_lt i (length text)) [ inl l ↦ IsCharBoundary-before_ascii text i l g | inr k ↦ (let e : length text ≡ i = omega arith in subst (IsCharBoundary text) e (IsCharBoundary-end text)) ]

number-boundary : (text : List ℕ) → starts_number text ≡ true → IsCharBoundary text (2 + word_size (drop 2 text))
number-boundary text e =
    let rest : List ℕ = drop 2 text in
    let long : 3 ≤ length text = number-long text e in
    let left : length rest ≡ length text - 2 = length-drop 2 text in
    let few : word_size rest ≤ length rest = word_size-within rest in
    boundary-before text (2 + word_size rest) (omega arith)
    (elim (word_end rest) [ inl l ↦ inl (omega arith) | inr g ↦ inr (subst (λ (n : ℕ). n < 128) (get_or-drop 2 text (word_size rest) 0) g) ])

quote-boundary : (byte : ℕ) (bytes : List ℕ) → IsUtf8 (byte ∷ bytes) → is_quote byte ≡ true → IsCharBoundary (byte ∷ bytes) (1 + quoted_size byte bytes)
quote-boundary byte bytes utf q =
    let text : List ℕ = byte ∷ bytes in
    let size : ℕ = quoted_size byte bytes in
    let few : size ≤ length bytes = quoted_size-within byte bytes in
    elim (quoted_end byte bytes) [
      | inl l ↦ boundary-before text (1 + size) (omega arith) (inl (omega arith))
      | inr (h, g) ↦ (
          let e : suc (size - 1) ≡ size = omega arith in
          let last : get_or text size 0 ≡ byte = subst (λ (n : ℕ). get_or text n 0 ≡ byte) e g in
          let small : get_or text size 0 < 128 = subst (λ (n : ℕ). n < 128) (sym last) (quote-ascii byte q) in
          let turn : size + 1 ≡ 1 + size = omega arith in
          subst (IsCharBoundary text) turn (IsCharBoundary-after_ascii text size utf (omega arith) small))
    ]

unequal-boundary : (byte : ℕ) (bytes : List ℕ) → IsUtf8 (byte ∷ bytes) → is_unequal byte (first_or_end bytes) ≡ true → IsCharBoundary (byte ∷ bytes) 2
unequal-boundary byte [] utf u = let long = unequal-long byte [] u in absurd (omega arith)
unequal-boundary byte (next ∷ bytes) utf u =
    let e : next ≡ 61 = eqb-true next 61 (and_parts (byte == 33) (next == 61) u).1 in
    IsCharBoundary-after_ascii (byte ∷ next ∷ bytes) 1 utf (omega arith) (omega arith)

-- a token ends between characters
token-boundary : (text : List ℕ) → IsUtf8 text → 0 < length text → IsCharBoundary text (token_size text)
unfolding token_size
token-boundary [] utf h = absurd (omega arith)
token-boundary (byte ∷ bytes) utf h =
    let text : List ℕ = byte ∷ bytes in
    let place : ℕ → Type 0 = λ n. IsCharBoundary text n in
    cond_both (starts_number text) (2 + word_size (drop 2 text)) _ place (number-boundary text)
    (λ e. cond_both (is_quote byte) (1 + quoted_size byte bytes) _ place (quote-boundary byte bytes utf)
    (λ e. cond_both (is_unequal byte (first_or_end bytes)) 2 _ place (unequal-boundary byte bytes utf)
    (λ e. cond_both (is_some (single byte)) 1 (word_size text) place
    (λ s. IsCharBoundary-after_ascii text 0 utf h (single-ascii byte s))
    (λ e. boundary-before text (word_size text) (word_size-within text) (word_end text)))))

-- a token is within a text and is UTF-8
abbrev pub IsText : List ℕ → Token → Type 0
IsText text t = (t.to ≤ length text) × IsUtf8 (bytes_between text t.from t.to)

-- the token at a position of a text
token-text : (text : List ℕ) (line at : ℕ) (bytes : List ℕ) (size : ℕ) → drop at text ≡ bytes → size ≤ length bytes → 0 < size → IsUtf8 (take size bytes) → IsText text (token_at line at (take size bytes))
token-text text line at bytes size e within some utf =
    let long : length (take size bytes) ≡ size = length-take size bytes ∙ omega arith in
    let left : length bytes ≡ length text - at = ap length (sym e) ∙ length-drop at text in
    let same : bytes_between text at (at + length (take size bytes)) ≡ take size bytes =
    ap (λ (n : ℕ). bytes_between text at (at + n)) long ∙ drop-take at size text ∙ ap (λ (xs : List ℕ). take size xs) e in
    (omega arith, subst IsUtf8 (sym same) utf)

scanned-text : (text : List ℕ) (line n at : ℕ) (bytes : List ℕ) → drop at text ≡ bytes → n ≤ length bytes → IsUtf8 (drop n bytes) → All (IsText text) (scanned line n at bytes)
scanned-text text line n at [] e h utf = All-nil (IsText text)
scanned-text text line (suc n) at (byte ∷ bytes) e h utf =
    let next : drop (at + 1) text ≡ bytes = drop-next at text byte bytes e in
    scanned-text text line n (at + 1) bytes next (omega arith) utf
scanned-text text line zero at (byte ∷ bytes) e h utf =
    let next : drop (at + 1) text ≡ bytes = drop-next at text byte bytes e in
    let whole : List ℕ = byte ∷ bytes in
    let size : ℕ = token_size whole in
    let within : size ≤ suc (length bytes) = token_size-within whole (omega arith) in
    let place : IsCharBoundary whole size = token-boundary whole utf (omega arith) in
    cond_both (is_blank byte) _ _ (All (IsText text))
    (λ blank. scanned-text text line zero (at + 1) bytes next (omega arith) (IsUtf8-drop whole 1 utf (IsCharBoundary-after_ascii whole 0 utf (omega arith) (blank-ascii byte blank))))
    (λ solid.
    let some : 0 < size = token_size-some whole (omega arith) solid in
    let f : suc (size - 1) ≡ size = omega arith in
    let behind : IsUtf8 (drop (size - 1) bytes) = subst (λ (k : ℕ). IsUtf8 (drop k whole)) (sym f) (IsUtf8-drop whole size utf place) in
    All-cons (IsText text) _ _ (token-text text line at whole size e within some (IsUtf8-take whole size utf place))
    (scanned-text text line (size - 1) (at + 1) bytes next (omega arith) behind))

-- a part ends in the source, and its text is UTF-8
pub record IsPartText (source : List ℕ) (p : Part) : Type 0 where
  pub within : p.to ≤ length source
  pub utf : IsUtf8 (part_text source p)

-- the tokens of parts that are UTF-8 are UTF-8
pub parts-text : (source : List ℕ) (ps : List Part) → All (IsPartText source) ps → All (λ (t : Token). IsUtf8 (bytes_between source t.from t.to)) (parts_tokens source ps)
parts-text source [] h = All-nil (λ (t : Token). IsUtf8 (bytes_between source t.from t.to))
parts-text source (p ∷ ps) h =
    let here : IsPartText source p = All-head (IsPartText source) p ps h in
    let text : List ℕ = take p.to source in
    let long : length text ≡ p.to = length-take p.to source ∙ omega (arith, here.within) in
    All-append (λ (t : Token). IsUtf8 (bytes_between source t.from t.to)) _ _
    (All-weaker (IsText text) (λ (t : Token). IsUtf8 (bytes_between source t.from t.to))
    (λ t (l, u). subst (λ (xs : List ℕ). IsUtf8 (drop t.from xs)) (take-take t.to p.to source (omega arith)) u) _
    (scanned-text text p.line 0 p.from (part_text source p) refl (omega arith) here.utf))
    (parts-text source ps (All-tail (IsPartText source) p ps h))
