-- Numbers, and a letter with a number, are names that a source reads.
use Rattle.std.proofs.Common.{◌≡◌, ℕ, zero, suc, ◌^◌, ◌<◌, ◌≤◌, Bool, true, false, not, ◌&&◌, ◌||◌, ◌==◌, List, [], ◌∷◌, length, None, is_some, refl, ◌∙◌, ap, arith}
use Rattle.std.specs.Prelude.{◌≢◌, nat_eq, nat_lt, nat_le}
use Rattle.std.specs.List.{list_all, list_any, AllByRecursion}
use Rattle.std.specs.Fmt.{decimal}
use Rattle.std.specs.Str.{IsAscii, is_utf8}
use Rattle.std.specs.Str.Parse.{AllDigits}
use Rattle.std.proofs.lemmas.Bool.{ne_eqb, lt-ltb, le-leb, and_from, eq-eqb, cond-true, cond-false, or_from, and_left}
use Rattle.std.proofs.lemmas.Fmt.{decimal_is_IsNumeral, length-decimal-le}
use Rattle.std.proofs.lemmas.Str.{IsUtf8-from_ascii, is_utf8-from_IsUtf8, chars-IsAscii}
use Rattle.std.proofs.lemmas.Str.Ascii.{IsAscii-nil}
use Rattle.std.proofs.lemmas.Str.Parse.{digit_from_value}
use Rattle.kmn_base.specs.Bytes.{is_quote, hex_digit}
use Rattle.kmn_base.specs.Texts.{character_count}
use Rattle.kmn_lines.specs.Bytes.{first_or_end}
use Rattle.kmn_lines.specs.Tokens.{single, is_unequal, in_word, word_size, starts_number, token_size, token_kind, begins_forbidden, has_forbidden, is_closed, token_fault}
use Rattle.kmn_lines.specs.declared.token.TokenKind.TheVariants as kind
use Rattle.kmn_lines.proofs.TextSizes.{in_word-plain, in_word-far}
use Rattle.kmn_items.specs.TokenTexts.{is_wordy}
use Rattle.kmn_items.specs.Words.{is_name}
use Rattle.kmn_parser.proofs.CleanTexts.{counted-characters}
use Rattle.kmn_parser.specs.Names.{is_inner}
use Rattle.kmn_parser.specs.Spelled.{IsStoreName}
use Rattle.kmn_parser.proofs.Words.{none-or}
use Rattle.decompile_program.specs.Names.{numbered_name}

-- a byte of a word that does not begin a number or the name of a system store
pub record IsTame (byte : ℕ) : Type 0 where
  pub low : 48 ≤ byte
  pub high : byte < 117
  pub equal : byte ≢ 61
  pub arrow : byte ≢ 62
  pub upper : byte ≢ 85
  pub opening : byte ≢ 91
  pub closing : byte ≢ 93

tame-word : (byte next : ℕ) → IsTame byte → in_word byte next ≡ true
tame-word byte next t = in_word-far byte next t.low t.equal t.arrow t.opening t.closing

tame-size : (bytes : List ℕ) → AllByRecursion IsTame bytes → word_size bytes ≡ length bytes
tame-size [] h = refl
tame-size (b ∷ bytes) h =
    cond-true (in_word b (first_or_end bytes)) _ _ (tame-word b (first_or_end bytes) h.0) ∙ (let more = tame-size bytes h.1 in omega (arith, more))

tame-start : (b : ℕ) (bytes : List ℕ) → IsTame b → starts_number (b ∷ bytes) ≡ false
tame-start b [] t = refl
tame-start b (c ∷ []) t = refl
tame-start b (c ∷ d ∷ bytes) t =
    let first : ((b == 85) || (b == 117)) ≡ false = or_from (b == 85) (b == 117) (ne_eqb b 85 t.upper) (ne_eqb b 117 (omega arith)) in
    and_left (((b == 85) || (b == 117)) && (c == 43)) (is_some (hex_digit d)) (and_left ((b == 85) || (b == 117)) (c == 43) first)

module _ (b : ℕ) (bytes : List ℕ) (t : AllByRecursion IsTame (b ∷ bytes)) where
  abbrev plain_quote : is_quote b ≡ false
  plain_quote = (in_word-plain b 0 (tame-word b 0 t.0)).quote

  abbrev plain_alone : is_some (single b) ≡ false
  plain_alone = (in_word-plain b 0 (tame-word b 0 t.0)).alone

  not-unequal : is_unequal b (first_or_end bytes) ≡ false
  not-unequal = and_left (b == 33) (first_or_end bytes == 61) (ne_eqb b 33 (let low = t.0.low in omega arith))

  size-is : token_size (b ∷ bytes) ≡ length (b ∷ bytes)
  unfolding token_size
  size-is =
      cond-false (starts_number (b ∷ bytes)) _ _ (tame-start b bytes t.0)
      ∙ cond-false (is_quote b) _ _ plain_quote
      ∙ cond-false (is_unequal b (first_or_end bytes)) _ _ not-unequal
      ∙ cond-false (is_some (single b)) _ _ plain_alone
      ∙ tame-size (b ∷ bytes) t

  kind-is : token_kind (b ∷ bytes) ≡ kind.Word
  unfolding token_kind
  kind-is =
      cond-false (starts_number (b ∷ bytes)) _ _ (tame-start b bytes t.0)
      ∙ cond-false (is_quote b) _ _ plain_quote
      ∙ cond-false (is_unequal b (first_or_end bytes)) _ _ not-unequal
      ∙ none-or (single b) kind.Word plain_alone

-- such a byte does not begin U+0000 or U+FFFF
allowed-here : (b : ℕ) (bytes : List ℕ) → IsTame b → begins_forbidden (b ∷ bytes) ≡ false
unfolding begins_forbidden
allowed-here b bytes t =
    or_from (b == 0) _ (ne_eqb b 0 (let low = t.low in omega arith)) (and_left (239 == b) _ (ne_eqb 239 b (let high = t.high in omega arith)))

allowed : (bytes : List ℕ) → AllByRecursion IsTame bytes → has_forbidden bytes ≡ false
allowed [] h = refl
allowed (b ∷ bytes) h = or_from (begins_forbidden (b ∷ bytes)) (has_forbidden bytes) (allowed-here b bytes h.0) (allowed bytes h.1)

sound : (b : ℕ) (bytes : List ℕ) → AllByRecursion IsTame (b ∷ bytes) → token_fault (b ∷ bytes) ≡ None
unfolding token_fault
sound b bytes t =
    cond-false (has_forbidden (b ∷ bytes)) _ _ (allowed (b ∷ bytes) t)
    ∙ cond-false (not (is_closed (b ∷ bytes))) _ _ (ap (λ (q : Bool). not (not q || list_any (λ c. c == b) bytes)) (plain_quote b bytes t))
    ∙ cond-false (starts_number (b ∷ bytes)) _ _ (tame-start b bytes t.0)

in-line : (bytes : List ℕ) → AllByRecursion IsTame bytes → list_all is_inner bytes ≡ true
in-line [] h = refl
in-line (b ∷ bytes) h =
    let low = h.0.low in
    and_from (is_inner b) (list_all is_inner bytes) (ap not (or_from (b == 10) (b == 13) (ne_eqb b 10 (omega arith)) (ne_eqb b 13 (omega arith)))) (in-line bytes h.1)

tame-ascii : (bytes : List ℕ) → AllByRecursion IsTame bytes → IsAscii bytes
tame-ascii [] h i = IsAscii-nil i
tame-ascii (b ∷ bytes) h zero = let high = h.0.high in omega arith
tame-ascii (b ∷ bytes) h (suc i) = tame-ascii bytes h.1 i

pub tame-utf8 : (bytes : List ℕ) → AllByRecursion IsTame bytes → is_utf8 bytes ≡ true
tame-utf8 bytes h = is_utf8-from_IsUtf8 bytes (IsUtf8-from_ascii bytes (tame-ascii bytes h))

few-characters : (bytes : List ℕ) → AllByRecursion IsTame bytes → 0 < length bytes → length bytes ≤ 80 → is_name bytes ≡ true
few-characters bytes h some few =
    let ascii = tame-ascii bytes h in
    let count : character_count bytes ≡ length bytes = counted-characters bytes (IsUtf8-from_ascii bytes ascii) ∙ ap length (chars-IsAscii bytes ascii) in
    and_from (nat_lt 0 (character_count bytes)) (nat_le (character_count bytes) 80)
    (ap (nat_lt 0) count ∙ lt-ltb 0 (length bytes) some) (ap (λ n. nat_le n 80) count ∙ le-leb (length bytes) 80 few)

pub tame_name : (bytes : List ℕ) → AllByRecursion IsTame bytes → 0 < length bytes → length bytes ≤ 80 → IsStoreName bytes
tame_name [] h some few = absurd (omega arith)
tame_name (b ∷ bytes) h some few = record {
  named = record {
    utf8 = tame-utf8 (b ∷ bytes) h;
    read = and_from _ _ (ap (λ n. nat_eq n (length (b ∷ bytes))) (size-is b bytes h) ∙ eq-eqb (length (b ∷ bytes)) (length (b ∷ bytes)) refl)
        (and_from _ _ (ap is_wordy (kind-is b bytes h))
        (and_from _ _ (ap (λ f. not (is_some f)) (sound b bytes h))
        (and_from _ _ (few-characters (b ∷ bytes) h some few) (in-line (b ∷ bytes) h))));
  };
  ordinary = ne_eqb b 38 (let low = h.0.low in omega arith);
}

tame-digit : (d : ℕ) → 48 ≤ d → d ≤ 57 → IsTame d
tame-digit d low high = record {
  low = low;
  high = omega arith;
  equal = omega arith;
  arrow = omega arith;
  upper = omega arith;
  opening = omega arith;
  closing = omega arith;
}

tame-digits : (ds : List ℕ) → AllDigits 10 ds → AllByRecursion IsTame ds
tame-digits [] h = tt
tame-digits (d ∷ ds) h = let range = digit_from_value d h.0 in (tame-digit d range.0 range.1, tame-digits ds h.1)

-- the number of a deadkey, and a letter followed by a number, are names
pub number_name : (n : ℕ) → n < 10 ^ 9 → IsStoreName (decimal n)
number_name n small =
    let numeral = decimal_is_IsNumeral n (omega arith) in
    let few = length-decimal-le 9 n (omega arith) small (omega arith) in
    tame_name (decimal n) (tame-digits (decimal n) numeral.0.1) numeral.0.0 (omega arith)

lettered : (letter n : ℕ) → IsTame letter → n < 10 ^ 9 → IsStoreName (letter ∷ decimal n)
lettered letter n t small =
    let numeral = decimal_is_IsNumeral n (omega arith) in
    let few = length-decimal-le 9 n (omega arith) small (omega arith) in
    tame_name (letter ∷ decimal n) (t, tame-digits (decimal n) numeral.0.1) (omega arith) (omega arith)

tame-s : IsTame 115
tame-s = record { low = omega arith; high = omega arith; equal = omega arith; arrow = omega arith; upper = omega arith; opening = omega arith; closing = omega arith }

tame-g : IsTame 103
tame-g = record { low = omega arith; high = omega arith; equal = omega arith; arrow = omega arith; upper = omega arith; opening = omega arith; closing = omega arith }

pub store_numbered : (n : ℕ) → n < 10 ^ 9 → IsStoreName (numbered_name (115 ∷ []) n)
store_numbered n small = lettered 115 n tame-s small

pub group_numbered : (n : ℕ) → n < 10 ^ 9 → IsStoreName (numbered_name (103 ∷ []) n)
group_numbered n small = lettered 103 n tame-g small
