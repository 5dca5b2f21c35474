-- Numbers in hexadecimal digits are read back.
use Rattle.std.proofs.Common.{◌≡◌, ℕ, zero, suc, ◌+◌, ◌-◌, ◌*◌, ◌/◌, ◌%◌, ◌<◌, ◌≤◌, inl, inr, Bool, true, false, not, ◌&&◌, ◌||◌, if◌then◌else◌, ◌==◌, List, [], ◌∷◌, ◌++◌, length, None, Some, is_some, refl, sym, ◌∙◌, ap, subst, arith, length-append}
use Rattle.std.specs.Prelude.{◌≢◌, unwrap_or, min, nat_le, nat_lt}
use Rattle.std.specs.List.{list_all}
use Rattle.std.proofs.lemmas.Bool.{and_from, ne_eqb, or_left, or_right, le-leb, lt-leb, lt-ltb, cases_lt, ltb-true, cond-true, cond-false, and_left, and_right, and_parts, or_from}
use Rattle.std.proofs.Math.Nat.{mod-lt, min-eq_left}
use Rattle.std.proofs.lemmas.Nat.{div-add-mod'}
use lib.Utf8.{scalar, scalar_cases}
use Rattle.kmn_base.specs.Bytes.{is_blank, hex_digit}
use Rattle.kmn_lines.specs.Tokens.{starts_number, token_size, token_kind, hex_value, begins_forbidden, has_forbidden, is_closed, all_digits, value_fault, token_fault, is_scalar}
use Rattle.kmn_lines.specs.declared.token.TokenKind.TheVariants as kind
use Rattle.kmn_lines.proofs.TextSizes.{in_word-plain, in_word-far, in-range, some-both}
use Rattle.kmn_parser.specs.ProgramLaws.{IsCharacter}
use Rattle.kmn_parser.specs.Texts.{hex_glyph, hex_text, hex_count, char_text}
use Rattle.kmn_parser.specs.Names.{is_inner}
use Rattle.kmn_parser.proofs.LineForms.{IsReadBack, IsNumberText, ends_word, is_plain_byte, is_still_byte}
use Rattle.kmn_parser.proofs.Words.{word_size-ended}

-- whether a byte is a byte of a word and not a backslash
abbrev pub is_safe_byte : ℕ → Bool
is_safe_byte byte = is_still_byte byte && not (byte == 92)

abbrev pub is_ascii_byte : ℕ → Bool
is_ascii_byte byte = nat_lt 0 byte && nat_lt byte 128

-- the bytes of hexadecimal digits
pub record IsDigitByte (byte : ℕ) : Type 0 where
  pub safe : is_safe_byte byte ≡ true
  pub ascii : is_ascii_byte byte ≡ true

digit-byte : (byte : ℕ) → 48 ≤ byte → byte < 103 → byte ≢ 61 → byte ≢ 62 → byte ≢ 91 → byte ≢ 92 → byte ≢ 93 → IsDigitByte byte
digit-byte byte low high e f g h k =
    let plain = in_word-plain byte 0 (in_word-far byte 0 low e f g k) in
    record {
      safe = and_from _ _ (and_from _ _ (ap not (or_from _ _ (or_from _ _ plain.blank plain.quote) plain.alone))
          (ap not (or_from _ _ (ne_eqb byte 10 (omega arith)) (ne_eqb byte 13 (omega arith))))) (ap not (ne_eqb byte 92 h));
      ascii = and_from _ _ (lt-ltb 0 byte (omega arith)) (lt-ltb byte 128 (omega arith));
    }

hex-byte : (byte : ℕ) → is_some (hex_digit byte) ≡ true → IsDigitByte byte
hex-byte byte =
    some-both (nat_le 48 byte && nat_le byte 57) _ _ (λ e. let r = in-range 48 57 byte e in digit-byte byte (omega arith) (omega arith) (omega arith) (omega arith) (omega arith) (omega arith) (omega arith))
    (some-both (nat_le 65 byte && nat_le byte 70) _ _ (λ e. let r = in-range 65 70 byte e in digit-byte byte (omega arith) (omega arith) (omega arith) (omega arith) (omega arith) (omega arith) (omega arith))
    (some-both (nat_le 97 byte && nat_le byte 102) _ _ (λ e. let r = in-range 97 102 byte e in digit-byte byte (omega arith) (omega arith) (omega arith) (omega arith) (omega arith) (omega arith) (omega arith))
    (λ e. absurd cc)))

pub digits-safe : (digits : List ℕ) → all_digits digits ≡ true → list_all is_safe_byte digits ≡ true
digits-safe [] e = refl
digits-safe (d ∷ digits) e = let two = and_parts (is_some (hex_digit d)) (all_digits digits) e in and_from _ _ (hex-byte d two.0).safe (digits-safe digits two.1)

digits-plain : (digits : List ℕ) → all_digits digits ≡ true → list_all is_plain_byte digits ≡ true
digits-plain [] e = refl
digits-plain (d ∷ digits) e =
    let two = and_parts (is_some (hex_digit d)) (all_digits digits) e in
    let safe = and_parts (is_still_byte d) (not (d == 92)) (hex-byte d two.0).safe in
    and_from _ _ (and_parts (is_plain_byte d) (is_inner d) safe.0).0 (digits-plain digits two.1)

pub digits-ascii : (digits : List ℕ) → all_digits digits ≡ true → list_all is_ascii_byte digits ≡ true
digits-ascii [] e = refl
digits-ascii (d ∷ digits) e = let two = and_parts (is_some (hex_digit d)) (all_digits digits) e in and_from _ _ (hex-byte d two.0).ascii (digits-ascii digits two.1)

-- a digit that is written has its value
glyph-digit : (n : ℕ) → n < 16 → hex_digit (hex_glyph n) ≡ Some n
glyph-digit n h = elim (cases_lt n 10) [
  | inl l ↦ subst (λ (b : ℕ). hex_digit b ≡ Some n) (sym (cond-true (nat_lt n 10) (48 + n) (55 + n) (lt-ltb n 10 l)))
      (cond-true (nat_le 48 (48 + n) && nat_le (48 + n) 57) _ _ (and_from _ _ (le-leb 48 (48 + n) (omega arith)) (le-leb (48 + n) 57 (omega arith)))
      ∙ (let e : 48 + n - 48 ≡ n = omega arith in ap Some e))
  | inr g ↦ subst (λ (b : ℕ). hex_digit b ≡ Some n) (sym (cond-false (nat_lt n 10) (48 + n) (55 + n) (ltb-no n g)))
      (cond-false (nat_le 48 (55 + n) && nat_le (55 + n) 57) _ _ (and_right _ _ (lt-leb (55 + n) 57 (omega arith)))
      ∙ cond-true (nat_le 65 (55 + n) && nat_le (55 + n) 70) _ _ (and_from _ _ (le-leb 65 (55 + n) (omega arith)) (le-leb (55 + n) 70 (omega arith)))
      ∙ (let e : 55 + n - 55 ≡ n = omega arith in ap Some e))
] where
  ltb-no : (n : ℕ) → 10 ≤ n → nat_lt n 10 ≡ false
  ltb-no n g = grind (arith, g)

-- the bound of a number with `count` digits
abbrev pub bound : ℕ → ℕ
bound zero = 1
bound (suc count) = bound count * 16

digit-small : (n : ℕ) → n % 16 < 16
digit-small n = mod-lt n (omega arith)

length-hex : (count n : ℕ) → length (hex_text count n) ≡ count
length-hex zero n = refl
length-hex (suc count) n = length-append (hex_text count (n / 16)) _ ∙ (let more = length-hex count (n / 16) in omega (arith, more))

digits-append : (xs ys : List ℕ) → all_digits xs ≡ true → all_digits ys ≡ true → all_digits (xs ++ ys) ≡ true
digits-append [] ys e f = f
digits-append (x ∷ xs) ys e f = let two = and_parts _ _ e in and_from _ _ two.0 (digits-append xs ys two.1 f)

pub digits-hex : (count n : ℕ) → all_digits (hex_text count n) ≡ true
digits-hex zero n = refl
digits-hex (suc count) n =
    digits-append (hex_text count (n / 16)) _ (digits-hex count (n / 16)) (and_from _ _ (ap is_some (glyph-digit (n % 16) (digit-small n))) refl)

forbidden-not : (byte : ℕ) (bytes : List ℕ) → is_ascii_byte byte ≡ true → begins_forbidden (byte ∷ bytes) ≡ false
unfolding begins_forbidden
forbidden-not byte bytes e =
    let two = and_parts (nat_lt 0 byte) (nat_lt byte 128) e in
    let low : 0 < byte = ltb-true 0 byte two.0 in
    let high : byte < 128 = ltb-true byte 128 two.1 in
    or_from _ _ (ne_eqb byte 0 (omega arith)) (and_left _ _ (ne_eqb 239 byte (omega arith)))

pub ascii-allowed : (bytes : List ℕ) → list_all is_ascii_byte bytes ≡ true → has_forbidden bytes ≡ false
ascii-allowed [] e = refl
ascii-allowed (byte ∷ bytes) e = let two = and_parts (is_ascii_byte byte) (list_all is_ascii_byte bytes) e in or_from _ _ (forbidden-not byte bytes two.0) (ascii-allowed bytes two.1)

value-push : (a : ℕ) (digits : List ℕ) (d : ℕ) → hex_value a (digits ++ d ∷ []) ≡ min (hex_value a digits * 16 + unwrap_or (hex_digit d) 0) 0x11_0000
value-push a [] d = refl
value-push a (b ∷ digits) d = value-push (min (a * 16 + unwrap_or (hex_digit b) 0) 0x11_0000) digits d

value-hex : (count n : ℕ) → n < bound count → n < 0x11_0000 → hex_value 0 (hex_text count n) ≡ n
value-hex zero n h small = omega arith
value-hex (suc count) n h small =
    let parts : n / 16 * 16 + n % 16 ≡ n = div-add-mod' n 16 in
    let less : n / 16 < bound count = omega (arith, parts, h) in
    let high = value-hex count (n / 16) less (omega (arith, parts)) in
    let digit : unwrap_or (hex_digit (hex_glyph (n % 16))) 0 ≡ n % 16 = ap (λ o. unwrap_or o 0) (glyph-digit (n % 16) (digit-small n)) in
    let sum : hex_value 0 (hex_text count (n / 16)) * 16 + unwrap_or (hex_digit (hex_glyph (n % 16))) 0 ≡ n = omega (arith, parts, high, digit) in
    value-push 0 (hex_text count (n / 16)) (hex_glyph (n % 16))
    ∙ ap (λ (k : ℕ). min k 0x11_0000) sum ∙ min-eq_left (omega arith)

number-starts : (first : ℕ) (digits rest : List ℕ) → ((first == 85) || (first == 117)) ≡ true → 0 < length digits → all_digits digits ≡ true → starts_number (first ∷ 43 ∷ (digits ++ rest)) ≡ true
number-starts first [] rest u h e = absurd (omega arith)
number-starts first (d ∷ digits) rest u h e = and_from _ _ (and_from _ _ u refl) (and_parts (is_some (hex_digit d)) (all_digits digits) e).0

-- a character is U+ and its digits
pub record HasDigits (c count : ℕ) : Type 0 where
  pub few : 4 ≤ count
  pub many : count ≤ 6
  pub fits : c < bound count

counted : (c : ℕ) → c < 0x11_0000 → HasDigits c (hex_count c)
counted c h = elim (cases_lt c 0x1_0000) [
  | inl l ↦ subst (HasDigits c) (sym (cond-true (nat_lt c 0x1_0000) 4 _ (lt-ltb c 0x1_0000 l))) (record { few = omega arith; many = omega arith; fits = l })
  | inr g ↦ subst (HasDigits c) (sym (cond-false (nat_lt c 0x1_0000) 4 _ (grind (arith, g))))
      (elim (cases_lt c 0x10_0000) as (λ _. HasDigits c (if nat_lt c 0x10_0000 then 5 else 6)) [
        | inl l ↦ subst (HasDigits c) (sym (cond-true (nat_lt c 0x10_0000) 5 6 (lt-ltb c 0x10_0000 l))) (record { few = omega arith; many = omega arith; fits = l })
        | inr k ↦ subst (HasDigits c) (sym (cond-false (nat_lt c 0x10_0000) 5 6 (grind (arith, k)))) (record { few = omega arith; many = omega arith; fits = omega arith })
      ])
]

append-none : (bytes : List ℕ) → bytes ++ [] ≡ bytes
append-none [] = refl
append-none (byte ∷ bytes) = ap (λ (xs : List ℕ). byte ∷ xs) (append-none bytes)

number-alone : (first : ℕ) (digits : List ℕ) → ((first == 85) || (first == 117)) ≡ true → 0 < length digits → all_digits digits ≡ true → starts_number (first ∷ 43 ∷ digits) ≡ true
number-alone first digits u h e = ap (λ (xs : List ℕ). starts_number (first ∷ 43 ∷ xs)) (sym (append-none digits)) ∙ number-starts first digits [] u h e

valid-scalar : (c : ℕ) → scalar c ≡ true → is_scalar c ≡ true
valid-scalar c e = elim (scalar_cases c e) [
  | inl l ↦ or_left (nat_lt c 0xD800) _ (lt-ltb c 0xD800 l)
  | inr h ↦ or_right (nat_lt c 0xD800) _ (and_from _ _ (lt-ltb 0xDFFF c h.0) (lt-ltb c 0x11_0000 h.1))
]

sound-value : (c : ℕ) → IsCharacter c → value_fault c ≡ None
sound-value c ok =
    cond-false ((c == 0) || (c == 0xFFFF)) _ _ (or_from _ _ (ne_eqb c 0 ok.not_first) (ne_eqb c 0xFFFF ok.not_last))
    ∙ cond-true (is_scalar c) _ _ (valid-scalar c ok.valid)

-- a number before a byte that ends a word
number-back : (first c : ℕ) (digits rest : List ℕ) → ((first == 85) || (first == 117)) ≡ true → is_ascii_byte first ≡ true → is_blank first ≡ false → 4 ≤ length digits → length digits ≤ 6
    → all_digits digits ≡ true → hex_value 0 digits ≡ c → value_fault c ≡ None → ends_word rest ≡ true → IsReadBack (record { kind = kind.Number c; text = first ∷ 43 ∷ digits }) rest
unfolding token_size token_kind token_fault
number-back first c digits rest u ascii blank few many all value valid e =
    let starts = number-alone first digits u (omega arith) all in
    record {
      some = omega arith;
      solid = blank;
      size = cond-true (starts_number (first ∷ 43 ∷ (digits ++ rest))) _ _ (number-starts first digits rest u (omega arith) all)
          ∙ (let size = word_size-ended digits rest (digits-plain digits all) e in omega (arith, size));
      kind = cond-true (starts_number (first ∷ 43 ∷ digits)) _ _ starts ∙ ap kind.Number value;
      sound = cond-false (has_forbidden (first ∷ 43 ∷ digits)) _ _ (ascii-allowed (first ∷ 43 ∷ digits) (and_from _ _ ascii (and_from _ _ refl (digits-ascii digits all))))
          ∙ cond-false (not (is_closed (first ∷ 43 ∷ digits))) _ _ (number-closed first (43 ∷ digits) u)
          ∙ cond-true (starts_number (first ∷ 43 ∷ digits)) _ _ starts
          ∙ cond-true (nat_le 4 (length digits) && nat_le (length digits) 6 && all_digits digits) _ _ (and_from _ _ (and_from _ _ (le-leb 4 _ few) (le-leb _ 6 many)) all)
          ∙ ap value_fault value ∙ valid;
    }
  where
    number-closed : (first : ℕ) (rest : List ℕ) → ((first == 85) || (first == 117)) ≡ true → not (is_closed (first ∷ rest)) ≡ false
    number-closed first rest u = grind (arith, u)

pub number_back : (c : ℕ) (text rest : List ℕ) → IsNumberText c text → ends_word rest ≡ true → IsReadBack (record { kind = kind.Number c; text = text }) rest
number_back c text rest is e =
    subst (λ (xs : List ℕ). IsReadBack (record { kind = kind.Number c; text = xs }) rest) (sym is.is) (cased is.upper)
  where
    cased : (upper : Bool) → IsReadBack (record { kind = kind.Number c; text = (if upper then 85 else 117) ∷ 43 ∷ is.digits }) rest
    cased true = number-back 85 c is.digits rest refl refl refl is.some is.few is.all is.value is.valid e
    cased false = number-back 117 c is.digits rest refl refl refl is.some is.few is.all is.value is.valid e

scalar-small : (c : ℕ) → scalar c ≡ true → c < 0x11_0000
scalar-small c e = elim (scalar_cases c e) [
  | inl l ↦ omega arith
  | inr h ↦ h.1
]

-- a written character is such a number
pub char_number : (c : ℕ) → IsCharacter c → IsNumberText c (char_text c)
char_number c ok =
    let small = scalar-small c ok.valid in
    let count = hex_count c in
    let has = counted c small in
    let long : length (hex_text count c) ≡ count = length-hex count c in
    record {
      upper = true;
      digits = hex_text count c;
      is = refl;
      some = let few = has.few in omega (arith, long, few);
      few = let many = has.many in omega (arith, long, many);
      all = digits-hex count c;
      value = value-hex count c has.fits small;
      valid = sound-value c ok;
    }
