-- A source name is read as a name, whether it is a word or a number.
use Rattle.std.proofs.Common.{◌≡◌, ℕ, ◌<◌, Bool, true, false, not, ◌&&◌, ◌||◌, if◌then◌else◌, ◌==◌, List, [], ◌∷◌, length, take, drop, Option, None, Some, is_some, refl, ◌∙◌, ap, subst, arith}
use Rattle.std.specs.Prelude.{All, nat_le, nat_eq, unwrap_or}
use Rattle.std.specs.List.{list_all}
use Rattle.std.proofs.lemmas.Bool.{and_parts, and_from, or_from, not_from_false, eqb-true, leb-true, cond_both, cond-false, not-true}
use Rattle.std.proofs.lemmas.List.Elements.{All-head, All-tail}
use Rattle.kmn_base.specs.Bytes.{is_quote, hex_digit}
use Rattle.kmn_base.specs.declared.codes.Code.{Code}
use Rattle.kmn_base.specs.declared.codes.Code.TheVariants.{L02, L03, L04}
use Rattle.kmn_lines.specs.Bytes.{first_or_end}
use Rattle.kmn_lines.specs.Tokens.{single, is_unequal, starts_number, hex_value, token_size, token_kind, token_fault, plain_kind, has_forbidden, is_closed, all_digits, value_fault, digits_fault}
use Rattle.kmn_lines.specs.Laws.{IsPlain}
use Rattle.kmn_lines.specs.declared.token.TokenKind.{TokenKind}
use Rattle.kmn_lines.specs.declared.token.TokenKind.TheVariants as kind
use Rattle.kmn_lines.proofs.TextSizes.{words_plain}
use Rattle.kmn_items.specs.TokenTexts.{is_wordy}
use Rattle.kmn_items.specs.Words.{is_name}
use Rattle.kmn_parser.specs.Names.{is_inner}
use Rattle.kmn_parser.specs.Spelled.{IsSpelledName}
use Rattle.kmn_parser.proofs.LineForms.{is_plain_byte, is_word_text, is_still_byte, IsNumberText, IsTokenText}
use Rattle.kmn_parser.proofs.Forms.{IsPrintedName}

-- the kind of a token without a fault
fault-parts : (forbidden closed number : Bool) (digits : Option Code)
    → is_some (if forbidden then Some L02 else (if not closed then Some L03 else (if number then digits else None))) ≡ false
    → (forbidden ≡ false) × (number ≡ true → is_some digits ≡ false)
fault-parts true closed number digits e = absurd cc
fault-parts false false number digits e = absurd cc
fault-parts false true true digits e = (refl, λ f. e)
fault-parts false true false digits e = (refl, λ f. absurd cc)

text-parts : (text : List ℕ) → is_some (token_fault text) ≡ false → (has_forbidden text ≡ false) × (starts_number text ≡ true → is_some (digits_fault (drop 2 text)) ≡ false)
unfolding token_fault
text-parts text e = fault-parts (has_forbidden text) (is_closed text) (starts_number text) (digits_fault (drop 2 text)) e

test-parts : (test : Bool) (fault : Option Code) → is_some (if test then fault else Some L04) ≡ false → (test ≡ true) × (is_some fault ≡ false)
test-parts true fault e = (refl, e)
test-parts false fault e = absurd cc

none-there : (o : Option Code) → is_some o ≡ false → o ≡ None
none-there None e = refl
none-there (Some x) e = absurd cc

-- a number token
number-first : (name : List ℕ) → starts_number name ≡ true → (upper : Bool) × (name ≡ (if upper then 85 else 117) ∷ 43 ∷ drop 2 name)
number-first [] e = absurd cc
number-first (a ∷ []) e = absurd cc
number-first (a ∷ b ∷ []) e = absurd cc
number-first (a ∷ b ∷ c ∷ bytes) e =
    let two = and_parts (((a == 85) || (a == 117)) && (b == 43)) (is_some (hex_digit c)) e in
    let one = and_parts ((a == 85) || (a == 117)) (b == 43) two.0 in
    letter (a == 85) refl one.0 (eqb-true b 43 one.1)
  where
    letter : (t : Bool) → (a == 85) ≡ t → (t || (a == 117)) ≡ true → b ≡ 43 → (upper : Bool) × (a ∷ b ∷ c ∷ bytes ≡ (if upper then 85 else 117) ∷ 43 ∷ c ∷ bytes)
    letter true h k f = (true, λ i. eqb-true a 85 h i ∷ f i ∷ c ∷ bytes)
    letter false h k f = (false, λ i. eqb-true a 117 k i ∷ f i ∷ c ∷ bytes)

number-name : (name : List ℕ) → starts_number name ≡ true → is_some (token_fault name) ≡ false → IsNumberText (hex_value 0 (drop 2 name)) name
number-name name number faultless =
    let first = number-first name number in
    let digits : List ℕ = drop 2 name in
    let tested = test-parts (nat_le 4 (length digits) && nat_le (length digits) 6 && all_digits digits) (value_fault (hex_value 0 digits)) ((text-parts name faultless).1 number) in
    let three = and_parts (nat_le 4 (length digits) && nat_le (length digits) 6) (all_digits digits) tested.0 in
    let sizes = and_parts (nat_le 4 (length digits)) (nat_le (length digits) 6) three.0 in
    record {
      upper = first.0;
      digits = digits;
      is = first.1;
      some = leb-true 4 (length digits) sizes.0;
      few = leb-true (length digits) 6 sizes.1;
      all = three.1;
      value = refl;
      valid = none-there (value_fault (hex_value 0 digits)) tested.1;
    }

-- a word token
abbrev IsWordIfWordy : TokenKind → Type 0
IsWordIfWordy k = is_wordy k ≡ true → k ≡ kind.Word

single-wordy : (byte : ℕ) → IsWordIfWordy (unwrap_or (single byte) kind.Word)
single-wordy byte =
    let P : Option TokenKind → Type 0 = λ (o : Option TokenKind). IsWordIfWordy (unwrap_or o kind.Word) in
    cond_both (byte == 40) _ _ P (λ e w. absurd cc) (λ e. cond_both (byte == 41) _ _ P (λ e w. absurd cc) (λ e. cond_both (byte == 91) _ _ P (λ e w. absurd cc)
    (λ e. cond_both (byte == 93) _ _ P (λ e w. absurd cc) (λ e. cond_both (byte == 62) _ _ P (λ e w. absurd cc) (λ e. cond_both (byte == 43) _ _ P (λ e w. absurd cc)
    (λ e. cond_both (byte == 61) _ _ P (λ e w. absurd cc) (λ e. cond_both (byte == 44) _ _ P (λ e w. absurd cc) (λ e w. refl))))))))

plain-wordy : (byte next : ℕ) → IsWordIfWordy (plain_kind byte next)
plain-wordy byte next =
    cond_both (is_quote byte) _ _ IsWordIfWordy (λ e w. absurd cc) (λ e. cond_both (is_unequal byte next) _ _ IsWordIfWordy (λ e w. absurd cc) (λ e. single-wordy byte))

word-there : (name : List ℕ) → starts_number name ≡ false → is_wordy (token_kind name) ≡ true → token_kind name ≡ kind.Word
unfolding token_kind
word-there name other wordy =
    let plain : token_kind name ≡ plain_kind (first_or_end name) (first_or_end (drop 1 name)) = cond-false (starts_number name) _ _ other in
    plain ∙ plain-wordy (first_or_end name) (first_or_end (drop 1 name)) (subst (λ (k : TokenKind). is_wordy k ≡ true) plain wordy)

bytes-plain : (bytes : List ℕ) → All IsPlain bytes → list_all is_plain_byte bytes ≡ true
bytes-plain [] all = refl
bytes-plain (byte ∷ bytes) all =
    let here = All-head IsPlain byte bytes all in
    and_from _ _ (not_from_false _ (or_from _ _ (or_from _ _ here.blank here.quote) here.alone)) (bytes-plain bytes (All-tail IsPlain byte bytes all))

bytes-still : (bytes : List ℕ) → list_all is_plain_byte bytes ≡ true → list_all is_inner bytes ≡ true → list_all is_still_byte bytes ≡ true
bytes-still [] plain inner = refl
bytes-still (byte ∷ bytes) plain inner =
    let one = and_parts (is_plain_byte byte) (list_all is_plain_byte bytes) plain in
    let two = and_parts (is_inner byte) (list_all is_inner bytes) inner in
    and_from _ _ (and_from _ _ one.0 two.0) (bytes-still bytes one.1 two.1)

take-all : (bytes : List ℕ) → take (length bytes) bytes ≡ bytes
take-all [] = refl
take-all (byte ∷ bytes) = ap (λ (xs : List ℕ). byte ∷ xs) (take-all bytes)

pub name-some : (name : List ℕ) → is_name name ≡ true → 0 < length name
name-some [] e = absurd cc
name-some (byte ∷ bytes) e = omega arith

whole-word : (name : List ℕ) → 0 < length name → list_all is_plain_byte name ≡ true → has_forbidden name ≡ false → is_word_text name ≡ true
whole-word [] some plain clean = absurd (omega arith)
whole-word (byte ∷ bytes) some plain clean = and_from _ _ plain (not_from_false _ clean)

word-name : (name : List ℕ) → 0 < length name → starts_number name ≡ false → token_size name ≡ length name → is_wordy (token_kind name) ≡ true → is_some (token_fault name) ≡ false → list_all is_inner name ≡ true
    → IsTokenText kind.Word name
word-name name some other size wordy faultless inner =
    let whole : take (token_size name) name ≡ name = ap (λ (n : ℕ). take n name) size ∙ take-all name in
    let word : token_kind (take (token_size name) name) ≡ kind.Word = ap token_kind whole ∙ word-there name other wordy in
    let all : All IsPlain name = subst (All IsPlain) whole (words_plain name some word) in
    let plain = bytes-plain name all in
    (whole-word name some plain (text-parts name faultless).0, bytes-still name plain inner)

name-token : (name : List ℕ) (number : Bool) → starts_number name ≡ number → is_name name ≡ true → token_size name ≡ length name → is_wordy (token_kind name) ≡ true → is_some (token_fault name) ≡ false → list_all is_inner name ≡ true
    → IsTokenText (if number then kind.Number (hex_value 0 (drop 2 name)) else kind.Word) name
name-token name true is fits size wordy faultless inner = number-name name is faultless
name-token name false is fits size wordy faultless inner = word-name name (name-some name fits) is size wordy faultless inner

-- a source name is read as a name
pub spelled_name : (name : List ℕ) → IsSpelledName name → IsPrintedName name
spelled_name name ok =
    let a = and_parts (nat_eq (token_size name) (length name)) _ ok.read in
    let b = and_parts (is_wordy (token_kind name)) _ a.1 in
    let c = and_parts (not (is_some (token_fault name))) _ b.1 in
    let d = and_parts (is_name name) (list_all is_inner name) c.1 in
    record {
      token = name-token name (starts_number name) refl d.0 (eqb-true (token_size name) (length name) a.0) b.0 (not-true _ c.0) d.1;
      fits = d.0;
    }
