-- The tokens of a line cover its parts.
use Rattle.std.proofs.Common.{◌≡◌, ℕ, zero, suc, ◌+◌, ◌-◌, ◌<◌, ◌≤◌, true, false, List, [], ◌∷◌, length, take, drop, refl, sym, ◌∙◌, ap, subst, arith}
use Rattle.std.specs.Prelude.{All}
use Rattle.std.specs.List.{list_all}
use Rattle.std.proofs.lemmas.Bool.{and_from, cond_both}
use Rattle.std.proofs.lemmas.List.{length-take}
use Rattle.std.proofs.lemmas.List.Elements.{All-cons, All-nil}
use Rattle.kmn_base.specs.Bytes.{is_blank}
use Rattle.kmn_lines.specs.Bytes.{first_or_end}
use Rattle.kmn_lines.specs.Lines.{parts_in}
use Rattle.kmn_lines.specs.Tokens.{token_size, token_text, token_at, scanned, part_text, parts_tokens, line_tokens}
use Rattle.kmn_lines.specs.Laws.{IsBlankText, IsPlain, Covers, CoversParts, TokensCoverParts, WordsArePlain}
use Rattle.kmn_lines.specs.declared.logical.Part.{Part}
use Rattle.kmn_lines.specs.declared.token.Token.{Token}
use Rattle.kmn_lines.specs.declared.token.TokenKind.TheVariants.{Word}
use Rattle.kmn_lines.proofs.TextSizes.{token_size-within, token_size-some, words_plain, all-if}

-- a blank before a text that is covered
covers-blank : (holds : Token → List ℕ → Type 0) (at byte : ℕ) (text : List ℕ) (ts : List Token) → is_blank byte ≡ true → Covers holds (at + 1) text ts → Covers holds at (byte ∷ text) ts
covers-blank holds at byte text [] e c = and_from (is_blank byte) (list_all is_blank text) e c
covers-blank holds at byte text (t ∷ ts) e (l, m, r, b, h, c) =
    let one : suc (t.from - (at + 1)) ≡ t.from - at = omega arith in
    let two : suc (t.to - (at + 1)) ≡ t.to - at = omega arith in (
      omega arith,
      m,
      omega arith,
      subst (λ (k : ℕ). IsBlankText (take k (byte ∷ text))) one (and_from (is_blank byte) (list_all is_blank (take (t.from - (at + 1)) text)) e b),
      subst (λ (k : ℕ). holds t (take (t.to - t.from) (drop k (byte ∷ text)))) one h,
      subst (λ (k : ℕ). Covers holds t.to (drop k (byte ∷ text)) ts) two c,
    )

-- a token at the start of a text whose rest is covered
covers-token : (holds : Token → List ℕ → Type 0) (at : ℕ) (text : List ℕ) (size : ℕ) (t : Token) (ts : List Token) → t.from ≡ at → t.to ≡ at + size → 0 < size → size ≤ length text → holds t (take size text) → Covers holds (at + size) (drop size text) ts → Covers holds at text (t ∷ ts)
covers-token holds at text size t ts e f some within h c =
    let one : 0 ≡ t.from - at = omega arith in
    let two : size ≡ t.to - t.from = omega arith in
    let three : size ≡ t.to - at = omega arith in (
      omega arith,
      omega arith,
      omega arith,
      subst (λ (k : ℕ). IsBlankText (take k text)) one refl,
      subst (λ (k : ℕ). holds t (take k (drop (t.from - at) text))) two (subst (λ (k : ℕ). holds t (take size (drop k text))) one h),
      subst (λ (k : ℕ). Covers holds k (drop (t.to - at) text) ts) (sym f) (subst (λ (k : ℕ). Covers holds (at + size) (drop k text) ts) three c),
    )

-- a property of each token at the beginning of a text
abbrev HoldsAtEach : ℕ → (Token → List ℕ → Type 0) → Type 0
HoldsAtEach line holds = (at : ℕ) (text : List ℕ) → 0 < length text → is_blank (first_or_end text) ≡ false → holds (token_at line at (token_text text)) (token_text text)

scanned-covers : (holds : Token → List ℕ → Type 0) (line : ℕ) (each : HoldsAtEach line holds) (n at : ℕ) (text : List ℕ) → n ≤ length text → Covers holds (at + n) (drop n text) (scanned line n at text)
scanned-covers holds line each zero at [] h = refl
scanned-covers holds line each (suc n) at [] h = absurd (omega arith)
scanned-covers holds line each (suc n) at (byte ∷ bytes) h =
    let e : at + 1 + n ≡ at + suc n = omega arith in
    subst (λ (k : ℕ). Covers holds k (drop n bytes) (scanned line n (at + 1) bytes)) e (scanned-covers holds line each n (at + 1) bytes (omega arith))
scanned-covers holds line each zero at (byte ∷ bytes) h =
    let text : List ℕ = byte ∷ bytes in
    let size : ℕ = token_size text in
    let within : size ≤ suc (length bytes) = token_size-within text (omega arith) in
    let e : at ≡ at + 0 = omega arith in
    subst (λ (k : ℕ). Covers holds k text (scanned line zero at text)) e
    (cond_both (is_blank byte) _ _ (Covers holds at text)
    (λ blank. covers-blank holds at byte bytes _ blank
    (let f : at + 1 + 0 ≡ at + 1 = omega arith in
    subst (λ (k : ℕ). Covers holds k bytes (scanned line zero (at + 1) bytes)) f (scanned-covers holds line each zero (at + 1) bytes (omega arith))))
    (λ solid.
    let some : 0 < size = token_size-some text (omega arith) solid in
    let long : length (take size text) ≡ size = length-take size text ∙ omega arith in
    let f : at + 1 + (size - 1) ≡ at + size = omega arith in
    let g : suc (size - 1) ≡ size = omega arith in
    covers-token holds at text size (token_at line at (token_text text)) (scanned line (size - 1) (at + 1) bytes)
    refl (ap (λ (k : ℕ). at + k) long) some within (each at text (omega arith) solid)
    (subst (λ (k : ℕ). Covers holds (at + size) (drop k text) (scanned line (size - 1) (at + 1) bytes)) g
    (subst (λ (k : ℕ). Covers holds k (drop (size - 1) bytes) (scanned line (size - 1) (at + 1) bytes)) f
    (scanned-covers holds line each (size - 1) (at + 1) bytes (omega arith))))))

scanned-numbered : (line n at : ℕ) (text : List ℕ) → All (λ (t : Token). t.line ≡ line) (scanned line n at text)
scanned-numbered line n at [] = All-nil (λ (t : Token). t.line ≡ line)
scanned-numbered line (suc n) at (byte ∷ bytes) = scanned-numbered line n (at + 1) bytes
scanned-numbered line zero at (byte ∷ bytes) =
    all-if (λ (t : Token). t.line ≡ line) (is_blank byte) _ _ (scanned-numbered line zero (at + 1) bytes)
    (All-cons (λ (t : Token). t.line ≡ line) _ _ refl (scanned-numbered line (token_size (byte ∷ bytes) - 1) (at + 1) bytes))

parts-covered : (holds : Token → List ℕ → Type 0) (each : (line : ℕ) → HoldsAtEach line holds) (source : List ℕ) (ps : List Part) → CoversParts holds source ps (parts_tokens source ps)
parts-covered holds each source [] = refl
parts-covered holds each source (p ∷ ps) =
    let e : p.from + 0 ≡ p.from = omega arith in (
      scanned p.line 0 p.from (part_text source p),
      parts_tokens source ps,
      refl,
      record {
        covers = subst (λ (k : ℕ). Covers holds k (part_text source p) (scanned p.line 0 p.from (part_text source p))) e
            (scanned-covers holds p.line (each p.line) 0 p.from (part_text source p) (omega arith));
        numbered = scanned-numbered p.line 0 p.from (part_text source p);
      },
      parts-covered holds each source ps,
    )

pub tokens_cover_parts : TokensCoverParts
unfolding line_tokens
tokens_cover_parts source l = parts-covered (λ t text. Unit {0}) (λ line at text h e. tt) source (parts_in source l)

pub words_are_plain : WordsArePlain
unfolding line_tokens
words_are_plain source l =
    parts-covered (λ t text. t.kind ≡ Word → All IsPlain text) (λ line at text h e. words_plain text h) source (parts_in source l)
