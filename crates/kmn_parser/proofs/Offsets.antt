-- Numbers in decimal digits are words, offsets and names.
use Rattle.std.proofs.Common.{◌≡◌, ℕ, ◌+◌, ◌*◌, ◌^◌, ◌<◌, ◌≤◌, true, List, [], ◌∷◌, length, refl, ◌∙◌, ap, arith}
use Rattle.std.specs.Prelude.{min, fold}
use Rattle.std.specs.List.{list_all}
use Rattle.std.specs.Char.{digit_value}
use Rattle.std.specs.Fmt.{decimal}
use Rattle.std.specs.Str.Parse.{AllDigits, digits_value_after}
use Rattle.std.proofs.Math.Nat.{min-eq_left}
use Rattle.std.proofs.lemmas.Bool.{and_from, or_from, not_from_false, lt-ltb, le-leb, ne_eqb}
use Rattle.std.proofs.lemmas.Fmt.{decimal_is_IsNumeral, length-decimal-le}
use Rattle.std.proofs.lemmas.Str.Parse.{digit_from_value}
use Rattle.kmn_base.specs.Digits.{are_digits, with_digit}
use Rattle.kmn_lines.specs.Laws.{IsPlain}
use Rattle.kmn_lines.proofs.TextSizes.{in_word-plain, in_word-far}
use Rattle.kmn_parser.specs.Spelled.{IsSpelledOffset}
use Rattle.kmn_parser.proofs.LineForms.{is_plain_byte, is_word_text, is_still_byte}
use Rattle.kmn_parser.proofs.Forms.{IsPrintedOffset}
use Rattle.kmn_parser.proofs.Hex.{ascii-allowed, is_ascii_byte}

digit-still : (d : ℕ) → 48 ≤ d → d ≤ 57 → is_still_byte d ≡ true
digit-still d low high =
    let plain : IsPlain d = in_word-plain d 0 (in_word-far d 0 low (omega arith) (omega arith) (omega arith) (omega arith)) in
    and_from _ _ (not_from_false _ (or_from _ _ (or_from _ _ plain.blank plain.quote) plain.alone)) (not_from_false _ (or_from _ _ (ne_eqb d 10 (omega arith)) (ne_eqb d 13 (omega arith))))

pub digits-still : (ds : List ℕ) → AllDigits 10 ds → list_all is_still_byte ds ≡ true
digits-still [] all = refl
digits-still (d ∷ ds) all = let range = digit_from_value d all.0 in and_from _ _ (digit-still d range.0 range.1) (digits-still ds all.1)

digits-plain : (ds : List ℕ) → AllDigits 10 ds → list_all is_plain_byte ds ≡ true
digits-plain [] all = refl
digits-plain (d ∷ ds) all =
    let range = digit_from_value d all.0 in
    let plain : IsPlain d = in_word-plain d 0 (in_word-far d 0 range.0 (omega (arith, range)) (omega (arith, range)) (omega (arith, range)) (omega (arith, range))) in
    and_from _ _ (not_from_false _ (or_from _ _ (or_from _ _ plain.blank plain.quote) plain.alone)) (digits-plain ds all.1)

number-ascii : (ds : List ℕ) → AllDigits 10 ds → list_all is_ascii_byte ds ≡ true
number-ascii [] all = refl
number-ascii (d ∷ ds) all =
    let range = digit_from_value d all.0 in
    and_from _ _ (and_from _ _ (lt-ltb 0 d (omega (arith, range))) (lt-ltb d 128 (omega (arith, range)))) (number-ascii ds all.1)

digits-word : (ds : List ℕ) → 0 < length ds → AllDigits 10 ds → is_word_text ds ≡ true
digits-word [] some all = absurd (omega arith)
digits-word (d ∷ ds) some all = and_from _ _ (digits-plain (d ∷ ds) all) (not_from_false _ (ascii-allowed (d ∷ ds) (number-ascii (d ∷ ds) all)))

digits-are : (ds : List ℕ) → AllDigits 10 ds → are_digits 10 ds ≡ true
digits-are [] all = refl
digits-are (d ∷ ds) all = and_from _ _ (lt-ltb (digit_value d) 10 all.0) (digits-are ds all.1)

no-less : (n : ℕ) (ds : List ℕ) → n ≤ digits_value_after 10 n ds
no-less n [] = omega arith
no-less n (d ∷ ds) = omega (arith, no-less (n * 10 + digit_value d) ds)

-- a number within the bound is read without it
unbounded : (bound n : ℕ) (ds : List ℕ) → digits_value_after 10 n ds ≤ bound → fold (with_digit bound 10) n ds ≡ digits_value_after 10 n ds
unbounded bound n [] fits = refl
unbounded bound n (d ∷ ds) fits =
    let next : ℕ = n * 10 + digit_value d in
    let less : next ≤ digits_value_after 10 next ds = no-less next ds in
    let sum : 10 * n + digit_value d ≡ next = omega arith in
    let step : with_digit bound 10 n d ≡ next = ap (λ (k : ℕ). min k bound) sum ∙ min-eq_left (omega (arith, less, fits)) in
    ap (λ (k : ℕ). fold (with_digit bound 10) k ds) step ∙ unbounded bound next ds fits

pub spelled_offset : (offset : ℕ) → IsSpelledOffset offset → IsPrintedOffset offset
spelled_offset offset spelled =
    let small : offset < 10 ^ 9 = spelled in
    let numeral = decimal_is_IsNumeral offset (omega arith) in
    let long : length (decimal offset) ≤ 9 = length-decimal-le 9 offset (omega arith) small (omega arith) in
    record {
      is_word = digits-word (decimal offset) numeral.0.0 numeral.0.1;
      still = digits-still (decimal offset) numeral.0.1;
      fits = and_from _ _ (and_from _ _ (le-leb 1 (length (decimal offset)) (let some = numeral.0.0 in omega arith)) (le-leb (length (decimal offset)) 9 long)) (digits-are (decimal offset) numeral.0.1);
      value = unbounded 999999999 0 (decimal offset) (let e : digits_value_after 10 0 (decimal offset) ≡ offset = numeral.1 in omega (arith, e, small)) ∙ numeral.1;
    }
