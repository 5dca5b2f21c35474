-- A value is read from quotes that do not occur in it.
use Rattle.std.proofs.Common.{◌≡◌, ℕ, ◌+◌, ◌-◌, ◌/◌, ◌%◌, ◌<◌, ◌≤◌, ◌≢◌, Bool, true, false, not, ◌&&◌, if◌then◌else◌, ◌==◌, List, [], ◌∷◌, ◌++◌, length, take, refl, sym, ◌∙◌, ap, subst, arith, append_assoc, length-append}
use Rattle.std.specs.Prelude.{All, nat_lt}
use Rattle.std.specs.List.{list_all, list_any}
use Rattle.std.proofs.Math.Seq.{take-append_seam}
use Rattle.std.proofs.lemmas.Bool.{and_parts, and_from, and_left, or_parts, or_from, not_from_false, ne_eqb, eqb-true, ltb-true, cond_both, false_from_ne_true, not-true}
use Rattle.std.proofs.lemmas.List.Elements.{All-head, All-tail}
use Rattle.std.proofs.lemmas.List.Folds.{list_all-append}
use Rattle.std.proofs.lemmas.Str.{chars-encodes}
use lib.Utf8.{scalars, encode, encodes}
use Rattle.kmn_base.specs.Texts.{decoded}
use Rattle.kmn_base.proofs.DecodedTexts.{decoded_text}
use Rattle.kmn_lines.specs.Tokens.{begins_forbidden, has_forbidden}
use Rattle.kmn_lines.specs.declared.token.TokenKind.TheVariants as kind
use Rattle.kmn_items.specs.TokenTexts.{inside, quoted}
use Rattle.kmn_parser.specs.ProgramLaws.{IsCharacter}
use Rattle.kmn_parser.specs.Names.{is_inner}
use Rattle.kmn_parser.specs.Spelled.{IsSpelledValue}
use Rattle.kmn_parser.proofs.LineForms.{IsQuotedText, IsTokenText}
use Rattle.kmn_parser.proofs.Forms.{IsPrintedValue}

-- if a property is true for a character as a byte and for all bytes from 128 on, it is true for the character's bytes
encode-bytes : (P : ℕ → Bool) (c : ℕ) → P c ≡ true → ((b : ℕ) → 128 ≤ b → P b ≡ true) → list_all P (encode c) ≡ true
unfolding encode
encode-bytes P c here high =
    let Q : List ℕ → Type 0 = λ (xs : List ℕ). list_all P xs ≡ true in
    cond_both (nat_lt c 128) _ _ Q (λ e. and_from _ _ here refl)
    (λ e. cond_both (nat_lt c 2048) _ _ Q
    (λ e. and_from _ _ (high (192 + c / 64) (omega arith)) (and_from _ _ (high (128 + c % 64) (omega arith)) refl))
    (λ e. cond_both (nat_lt c 65536) _ _ Q
    (λ e. and_from _ _ (high (224 + c / 4096) (omega arith)) (and_from _ _ (high (128 + c / 64 % 64) (omega arith)) (and_from _ _ (high (128 + c % 64) (omega arith)) refl)))
    (λ e. and_from _ _ (high (240 + c / 262144) (omega arith)) (and_from _ _ (high (128 + c / 4096 % 64) (omega arith)) (and_from _ _ (high (128 + c / 64 % 64) (omega arith)) (and_from _ _ (high (128 + c % 64) (omega arith)) refl))))))

encodes-bytes : (P : ℕ → Bool) (cs : List ℕ) → list_all P cs ≡ true → ((b : ℕ) → 128 ≤ b → P b ≡ true) → list_all P (encodes cs) ≡ true
encodes-bytes P [] all high = refl
encodes-bytes P (c ∷ cs) all high =
    let two = and_parts (P c) (list_all P cs) all in
    list_all-append P (encode c) (encodes cs) ∙ and_from _ _ (encode-bytes P c two.0 high) (encodes-bytes P cs two.1 high)

none-passes : (P : ℕ → Bool) (xs : List ℕ) → list_all (λ x. not (P x)) xs ≡ true → list_any P xs ≡ false
none-passes P [] e = refl
none-passes P (x ∷ xs) e = let two = and_parts (not (P x)) _ e in or_from _ _ (not-true (P x) two.0) (none-passes P xs two.1)

all-fail : (P : ℕ → Bool) (xs : List ℕ) → list_any P xs ≡ false → list_all (λ x. not (P x)) xs ≡ true
all-fail P [] e = refl
all-fail P (x ∷ xs) e = let two = or_parts (P x) (list_any P xs) e in and_from _ _ (not_from_false _ two.0) (all-fail P xs two.1)

quote-apart : (quote : ℕ) (cs : List ℕ) → quote < 128 → list_any (λ c. c == quote) cs ≡ false → list_any (λ b. b == quote) (encodes cs) ≡ false
quote-apart quote cs low none =
    none-passes (λ b. b == quote) (encodes cs)
    (encodes-bytes (λ b. not (b == quote)) cs (all-fail (λ c. c == quote) cs none) (λ b high. not_from_false _ (ne_eqb b quote (omega arith))))

-- a byte past 127 is inside a line
pub high-inner : (b : ℕ) → 128 ≤ b → is_inner b ≡ true
high-inner b high = not_from_false _ (or_from _ _ (ne_eqb b 10 (omega arith)) (ne_eqb b 13 (omega arith)))

-- bytes that do not begin U+0000 or U+FFFF
byte-allowed : (b : ℕ) (rest : List ℕ) → b ≢ 0 → b ≢ 239 → has_forbidden rest ≡ false → has_forbidden (b ∷ rest) ≡ false
unfolding begins_forbidden
byte-allowed b rest some other more = or_from _ _ (or_from _ _ (ne_eqb b 0 some) (and_left (239 == b) _ (ne_eqb 239 b (λ e. other (sym e))))) more

three-allowed : (a b c : ℕ) (rest : List ℕ) → a ≢ 0 → (239 ≡ a → 191 ≡ b → 191 ≡ c → ⊥) → b ≢ 0 → b ≢ 239 → c ≢ 0 → c ≢ 239 → has_forbidden rest ≡ false → has_forbidden (a ∷ b ∷ c ∷ rest) ≡ false
unfolding begins_forbidden
three-allowed a b c rest some other b1 b2 c1 c2 more =
    or_from _ _ (or_from _ _ (ne_eqb a 0 some) (false_from_ne_true ((239 == a) && ((191 == b) && ((191 == c) && true)))
    (λ e. let one = and_parts (239 == a) _ e in let two = and_parts (191 == b) _ one.1 in let three = and_parts (191 == c) true two.1 in
    other (eqb-true 239 a one.0) (eqb-true 191 b two.0) (eqb-true 191 c three.0))))
    (byte-allowed b (c ∷ rest) b1 b2 (byte-allowed c rest c1 c2 more))

char-allowed : (c : ℕ) (rest : List ℕ) → IsCharacter c → has_forbidden rest ≡ false → has_forbidden (encode c ++ rest) ≡ false
unfolding encode
char-allowed c rest ok more =
    let Q : List ℕ → Type 0 = λ (xs : List ℕ). has_forbidden (xs ++ rest) ≡ false in
    let some : c ≢ 0 = ok.not_first in
    let other : c ≢ 0xFFFF = ok.not_last in
    cond_both (nat_lt c 128) _ _ Q (λ e. let low : c < 128 = ltb-true c 128 e in byte-allowed c rest some (omega arith) more)
    (λ e. cond_both (nat_lt c 2048) _ _ Q
    (λ e. let low : c < 2048 = ltb-true c 2048 e in byte-allowed (192 + c / 64) _ (omega arith) (omega arith) (byte-allowed (128 + c % 64) rest (omega arith) (omega arith) more))
    (λ e. cond_both (nat_lt c 65536) _ _ Q
    (λ e. let low : c < 65536 = ltb-true c 65536 e in
    three-allowed (224 + c / 4096) (128 + c / 64 % 64) (128 + c % 64) rest (omega arith) (λ f g h. other (last-one c low f g h)) (omega arith) (omega arith) (omega arith) (omega arith) more)
    (λ e. byte-allowed (240 + c / 262144) _ (omega arith) (omega arith)
    (byte-allowed (128 + c / 4096 % 64) _ (omega arith) (omega arith) (byte-allowed (128 + c / 64 % 64) _ (omega arith) (omega arith) (byte-allowed (128 + c % 64) rest (omega arith) (omega arith) more))))))
  where
    last-one : (c : ℕ) → c < 65536 → 239 ≡ 224 + c / 4096 → 191 ≡ 128 + c / 64 % 64 → 191 ≡ 128 + c % 64 → c ≡ 0xFFFF
    last-one c low f g h = omega (arith, low, f, g, h)

chars-allowed : (cs rest : List ℕ) → All IsCharacter cs → has_forbidden rest ≡ false → has_forbidden (encodes cs ++ rest) ≡ false
chars-allowed [] rest all more = more
chars-allowed (c ∷ cs) rest all more =
    subst (λ (xs : List ℕ). has_forbidden xs ≡ false) (sym (append_assoc (encode c) (encodes cs) rest))
    (char-allowed c (encodes cs ++ rest) (All-head IsCharacter c cs all) (chars-allowed cs rest (All-tail IsCharacter c cs all) more))

pub all-scalars : (cs : List ℕ) → All IsCharacter cs → scalars cs ≡ true
all-scalars [] all = refl
all-scalars (c ∷ cs) all = and_from _ _ (All-head IsCharacter c cs all).valid (all-scalars cs (All-tail IsCharacter c cs all))

-- the text in quotes is the bytes between them
inside-quotes : (quote : ℕ) (bytes : List ℕ) → inside (quote ∷ (bytes ++ quote ∷ [])) ≡ bytes
inside-quotes quote bytes =
    let long : length (quote ∷ (bytes ++ quote ∷ [])) - 2 ≡ length bytes = (let l = length-append bytes (quote ∷ []) in omega (arith, l)) in
    ap (λ (n : ℕ). take n (bytes ++ quote ∷ [])) long ∙ take-append_seam bytes (quote ∷ [])

value-read : (quote : ℕ) (cs : List ℕ) → All IsCharacter cs → quoted (quote ∷ (encodes cs ++ quote ∷ [])) ≡ cs
value-read quote cs all =
    let valid = all-scalars cs all in
    ap decoded (inside-quotes quote (encodes cs)) ∙ decoded_text (encodes cs) (cs, (valid, refl)) ∙ chars-encodes cs valid

value-quoted : (quote : ℕ) (cs : List ℕ) → quote < 128 → quote ≢ 0 → IsSpelledValue cs → list_any (λ c. c == quote) cs ≡ false → IsQuotedText quote (quote ∷ (encodes cs ++ quote ∷ []))
value-quoted quote cs low some ok none = record {
  bytes = encodes cs;
  is = refl;
  apart = quote-apart quote cs low none;
  inner = encodes-bytes is_inner cs ok.in_line high-inner;
  allowed = byte-allowed quote _ some (omega arith) (chars-allowed cs (quote ∷ []) ok.characters (byte-allowed quote [] some (omega arith) refl));
}

-- the quote that does not occur in a value
chosen : (value : List ℕ) (double : Bool) → list_any (λ c. c == 34) value ≡ double → IsSpelledValue value
    → IsTokenText kind.Quoted ((if double then 39 else 34) ∷ (encodes value ++ (if double then 39 else 34) ∷ []))
chosen value true is ok = (false, value-quoted 39 value (omega arith) (omega arith) ok (single-only is ok.one_quote))
  where
    single-only : list_any (λ c. c == 34) value ≡ true → (list_any (λ c. c == 34) value && list_any (λ c. c == 39) value) ≡ false → list_any (λ c. c == 39) value ≡ false
    single-only e f = sym (ap (λ b. b && list_any (λ c. c == 39) value) e) ∙ f
chosen value false is ok = (true, value-quoted 34 value (omega arith) (omega arith) ok is)

pub spelled_value : (value : List ℕ) → IsSpelledValue value → IsPrintedValue value
spelled_value value ok = record {
  read = value-read (if list_any (λ c. c == 34) value then 39 else 34) value ok.characters;
  sound = chosen value (list_any (λ c. c == 34) value) refl ok;
}
