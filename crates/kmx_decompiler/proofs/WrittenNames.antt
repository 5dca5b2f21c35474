-- A text can express each name, value and key that is read from whole tokens.
use Rattle.std.proofs.Common.{◌≡◌, ℕ, zero, suc, ◌+◌, ◌-◌, ◌<◌, ◌==◌, Bool, true, false, not, ◌&&◌, ◌||◌, if◌then◌else◌, List, [], ◌∷◌, ◌++◌, length, take, drop, Option, None, Some, is_some, option_map, unwrap_or, refl, sym, ◌∙◌, ap, subst, arith, inl, inr}
use Rattle.std.specs.Prelude.{All, IsUtf8, chars, nat_eq, nat_lt, nat_le, slice_get}
use Rattle.std.specs.List.{list_all, list_any}
use Rattle.std.specs.Str.{byte, is_utf8}
use Rattle.std.proofs.lemmas.Bool.{and_parts, or_cases, cases_lt, cond_both, eq-eqb, eqb-true, ltb-true, and_from, or_left, or_right, lt-ltb, le-leb, and_right, and_left, cond-false}
use Rattle.std.proofs.lemmas.List.Elements.{All-nil}
use Rattle.std.proofs.lemmas.List.Folds.{list_all-append, list_any-append}
use Rattle.std.proofs.lemmas.Option.{none-some, same_Some}
use Rattle.std.proofs.lemmas.Str.{IsUtf8-from_is_utf8, is_utf8-from_IsUtf8, encodes-chars, encode_ascii}
use lib.Utf8.{encode, encodes}
use Rattle.kmn_base.specs.declared.codes.Code.{Code}
use Rattle.kmn_base.specs.Bytes.{is_quote}
use Rattle.virtual_keys.specs.Keys.{key_codes, key_code, key_name}
use Rattle.kmn_lines.specs.Bytes.{first_or_end}
use Rattle.kmn_lines.specs.Tokens.{single, is_unequal, quoted_size, starts_number, token_size, token_kind, token_fault}
use Rattle.kmn_lines.specs.declared.token.TokenKind.{TokenKind}
use Rattle.kmn_lines.specs.declared.token.TokenKind.TheVariants as kind
use Rattle.kmn_lines.proofs.TextSizes.{clash}
use Rattle.kmn_lines.proofs.TextTokens.{quote-ascii}
use Rattle.kmn_items.specs.declared.syntax.TokenRefusal.{TokenRefusal}
use Rattle.kmn_items.specs.declared.syntax.Slot.{Slot}
use Rattle.kmn_items.specs.declared.syntax.Slot.TheVariants as slot
use Rattle.kmn_items.specs.TokenTexts.{LineToken, text_at, inside, quoted, is_quoted, is_word, is_wordy}
use Rattle.kmn_items.specs.Words.{is_system_name, bare_name, is_name, is_own_key, is_key_name}
use Rattle.kmn_base.specs.Texts.{character_count}
use Rattle.kmn_items.specs.Slots.{slot_fault, or_fault, broken}
use Rattle.kmn_items.specs.Brackets.{flags_of, named_key}
use Rattle.kmn_parser.specs.ProgramLaws.{IsCharacter, IsReadKey}
use Rattle.kmn_parser.proofs.CleanTexts.{clean-take, clean-drop, clean-characters, counted-characters}
use Rattle.kmn_parser.proofs.SoundKeys.{row-found, no-code, key-read}
use Rattle.kmn_parser.proofs.ReadStatements.{unless-none}
use Rattle.kmn_parser.specs.Names.{is_inner}
use Rattle.kmn_parser.specs.Spelled.{IsSpelledName, IsSpelledValue, IsSpelledKey}
use Rattle.kmn_parser.proofs.Values.{high-inner}
use Rattle.kmx_decompiler.proofs.CompiledStores.{all_at}
use Rattle.kmx_decompiler.proofs.RetakenTokens.{size_plain, size_quote}
use Rattle.kmx_decompiler.proofs.WholeTokens.{IsWholeToken}

-- ---- forms

or-none : (at : ℕ) (code : Option Code) (later : Option TokenRefusal) → or_fault at code later ≡ None → (code ≡ None) × (later ≡ None)
or-none at None later e = (refl, e)
or-none at (Some code) later e = absurd (cc)

-- the token at a place of a form, which fits the slot there
pub record IsFilled (wanted : Slot) (n : ℕ) (tokens : List LineToken) : Type 0 where
  pub token : LineToken
  pub at : slice_get tokens n ≡ Some token
  pub fits : slot_fault wanted token ≡ None

pub filled : (last at n : ℕ) (slots : List Slot) (tokens : List LineToken) (wanted : Slot) → broken last at slots tokens ≡ None → slice_get slots n ≡ Some wanted → IsFilled wanted n tokens
filled last at n [] tokens wanted whole there = absurd (none-some wanted there)
filled last at n (x ∷ slots) [] wanted whole there = absurd (cc)
filled last at zero (x ∷ slots) (token ∷ tokens) wanted whole there =
    let parts = or-none at (slot_fault x token) (broken last (at + 1) slots tokens) whole in
    record { token = token; at = refl; fits = subst (λ (y : Slot). slot_fault y token ≡ None) (same_Some x wanted there) parts.0 }
filled last at (suc n) (x ∷ slots) (token ∷ tokens) wanted whole there =
    let parts = or-none at (slot_fault x token) (broken last (at + 1) slots tokens) whole in
    let more = filled last (at + 1) n slots tokens wanted parts.1 there in
    record { token = more.token; at = more.at; fits = more.fits }

pub text_is : (n : ℕ) (tokens : List LineToken) (token : LineToken) → slice_get tokens n ≡ Some token → text_at n tokens ≡ token.text
text_is n tokens token at = ap (λ (o : Option LineToken). unwrap_or (option_map (λ (t : LineToken). t.text) o) []) at

-- ---- names

pub name_spelled : (token : LineToken) → IsWholeToken token → is_wordy token.kind ≡ true → is_name token.text ≡ true → IsSpelledName token.text
name_spelled token ok wordy named =
    let text : List ℕ = token.text in
    record {
      utf8 = is_utf8-from_IsUtf8 text ok.sound.utf8;
      read =
          and_from (nat_eq (token_size text) (length text)) _ (eq-eqb (token_size text) (length text) ok.whole.size)
          (and_from (is_wordy (token_kind text)) _ (ap is_wordy (sym ok.whole.is) ∙ wordy)
          (and_from (not (is_some (token_fault text))) _ (ap (λ (o : Option Code). not (is_some o)) ok.whole.faultless)
          (and_from (is_name text) (list_all is_inner text) named ok.whole.inner)));
    }

-- if a form is not broken, the word at a place for a name is a name of a source
pub named_at : (last at n : ℕ) (slots : List Slot) (tokens : List LineToken) → All IsWholeToken tokens → broken last at slots tokens ≡ None → slice_get slots n ≡ Some slot.Name → IsSpelledName (text_at n tokens)
named_at last at n slots tokens ok whole there =
    let here = filled last at n slots tokens slot.Name whole there in
    let test = and_parts (is_wordy here.token.kind) (is_name here.token.text) (unless-none _ _ here.fits) in
    subst IsSpelledName (sym (text_is n tokens here.token here.at)) (name_spelled here.token (all_at IsWholeToken tokens ok n here.token here.at) test.0 test.1)

-- if a form is not broken, the word at a place for a store is a name of a source, unless it is the name of a system store
pub store_at : (last at n : ℕ) (slots : List Slot) (tokens : List LineToken) → All IsWholeToken tokens → broken last at slots tokens ≡ None → slice_get slots n ≡ Some slot.StoreName
    → is_system_name (text_at n tokens) ≡ false → IsSpelledName (text_at n tokens)
store_at last at n slots tokens ok whole there ordinary =
    let here = filled last at n slots tokens slot.StoreName whole there in
    let test = and_parts (is_wordy here.token.kind) (is_name (bare_name here.token.text)) (unless-none _ _ here.fits) in
    let same = text_is n tokens here.token here.at in
    let bare : bare_name here.token.text ≡ here.token.text = cond-false (is_system_name here.token.text) _ _ (ap is_system_name (sym same) ∙ ordinary) in
    subst IsSpelledName (sym same) (name_spelled here.token (all_at IsWholeToken tokens ok n here.token here.at) test.0 (ap is_name (sym bare) ∙ test.1))

-- ---- values

abbrev Has : ℕ → List ℕ → Bool
Has k cs = list_any (λ c. c == k) cs

-- an ASCII character is a byte of the text
has-byte : (k : ℕ) → k < 128 → (cs : List ℕ) → Has k cs ≡ true → Has k (encodes cs) ≡ true
has-byte k small [] h = h
has-byte k small (c ∷ cs) h = by (c == k) refl h (has-byte k small cs)
  where
    by : (b : Bool) → (c == k) ≡ b → (b || Has k cs) ≡ true → (Has k cs ≡ true → Has k (encodes cs) ≡ true) → Has k (encode c ++ encodes cs) ≡ true
    by true e g rest =
        let low : c < 128 = let same = eqb-true c k e in omega (arith, small, same) in
        list_any-append (λ b. b == k) (encode c) (encodes cs)
        ∙ or_left (Has k (encode c)) (Has k (encodes cs)) (ap (Has k) (encode_ascii c low) ∙ or_left (c == k) false e)
    by false e g rest = list_any-append (λ b. b == k) (encode c) (encodes cs) ∙ or_right (Has k (encode c)) (Has k (encodes cs)) (rest g)

no-character : (k : ℕ) → k < 128 → (bs : List ℕ) → IsUtf8 bs → Has k bs ≡ false → Has k (chars bs) ≡ false
no-character k small bs utf8 h = by (Has k (chars bs)) refl
  where
    by : (b : Bool) → Has k (chars bs) ≡ b → b ≡ false
    by true e = clash (Has k bs) (ap (Has k) (sym (encodes-chars bs utf8)) ∙ has-byte k small (chars bs) e) h
    by false e = refl

-- if the bytes of characters do not end a line, the characters do not end a line
inner-characters : (cs : List ℕ) → list_all is_inner (encodes cs) ≡ true → list_all is_inner cs ≡ true
inner-characters [] h = refl
inner-characters (c ∷ cs) h =
    let parts = and_parts (list_all is_inner (encode c)) (list_all is_inner (encodes cs)) (sym (list_all-append is_inner (encode c) (encodes cs)) ∙ h) in
    and_from (is_inner c) (list_all is_inner cs)
    (elim (cases_lt c 128) [
      | inl low ↦ (and_parts (is_inner c) true (ap (list_all is_inner) (sym (encode_ascii c low)) ∙ parts.0)).0
      | inr high ↦ high-inner c high
    ])
    (inner-characters cs parts.1)

inner-take : (n : ℕ) (bs : List ℕ) → list_all is_inner bs ≡ true → list_all is_inner (take n bs) ≡ true
inner-take zero bs h = refl
inner-take (suc n) [] h = refl
inner-take (suc n) (b ∷ bs) h = let parts = and_parts (is_inner b) (list_all is_inner bs) h in and_from (is_inner b) (list_all is_inner (take n bs)) parts.0 (inner-take n bs parts.1)

inner-drop : (bs : List ℕ) → list_all is_inner bs ≡ true → list_all is_inner (drop 1 bs) ≡ true
inner-drop [] h = refl
inner-drop (b ∷ bs) h = (and_parts (is_inner b) (list_all is_inner bs) h).1

-- before the closing quote there is no such quote
before-quote : (quote : ℕ) (bytes : List ℕ) (n : ℕ) → n < quoted_size quote bytes → Has quote (take n bytes) ≡ false
before-quote quote bytes zero h = refl
before-quote quote [] (suc n) h = refl
before-quote quote (b ∷ bytes) (suc n) h = by (b == quote) h (before-quote quote bytes n)
  where
    by : (t : Bool) → suc n < (if t then 1 else 1 + quoted_size quote bytes) → (n < quoted_size quote bytes → Has quote (take n bytes) ≡ false) → (t || Has quote (take n bytes)) ≡ false
    by true g rest = absurd (omega (arith, g))
    by false g rest = rest (omega (arith, g))

-- a quoted token begins with its quote
single-unquoted : (b : ℕ) → is_quoted (unwrap_or (single b) kind.Word) ≡ false
single-unquoted b =
    let P : Option TokenKind → Type 0 = λ (o : Option TokenKind). is_quoted (unwrap_or o kind.Word) ≡ false in
    cond_both (b == 40) _ _ P (λ e. refl) (λ e. cond_both (b == 41) _ _ P (λ e. refl) (λ e. cond_both (b == 91) _ _ P (λ e. refl)
    (λ e. cond_both (b == 93) _ _ P (λ e. refl) (λ e. cond_both (b == 62) _ _ P (λ e. refl) (λ e. cond_both (b == 43) _ _ P (λ e. refl)
    (λ e. cond_both (b == 61) _ _ P (λ e. refl) (λ e. cond_both (b == 44) _ _ P (λ e. refl) (λ e. refl))))))))

plain-quoted : (q u : Bool) (other : TokenKind) → is_quoted other ≡ false → is_quoted (if q then kind.Quoted else (if u then kind.Unequal else other)) ≡ true → q ≡ true
plain-quoted true u other o e = refl
plain-quoted false true other o e = absurd (cc)
plain-quoted false false other o e = clash (is_quoted other) e o

number-quoted : (number : Bool) (c : ℕ) (other : TokenKind) → is_quoted (if number then kind.Number c else other) ≡ true → (number ≡ false) × (is_quoted other ≡ true)
number-quoted true c other e = absurd (cc)
number-quoted false c other e = (refl, e)

kind-quoted : (text : List ℕ) → is_quoted (token_kind text) ≡ true → (starts_number text ≡ false) × (is_quote (first_or_end text) ≡ true)
unfolding token_kind
kind-quoted text e =
    let one = number-quoted (starts_number text) _ _ e in
    (one.0, plain-quoted (is_quote (first_or_end text)) (is_unequal (first_or_end text) (first_or_end (drop 1 text))) (unwrap_or (single (first_or_end text)) kind.Word) (single-unquoted (first_or_end text)) one.1)

-- between the quotes there is no such quote
inside-clean : (text : List ℕ) → starts_number text ≡ false → is_quote (first_or_end text) ≡ true → token_size text ≡ length text → Has (first_or_end text) (inside text) ≡ false
inside-clean [] number quote size = absurd (cc)
inside-clean (q ∷ []) number quote size = refl
inside-clean (q ∷ b ∷ bytes) number quote size =
    let whole : token_size (q ∷ b ∷ bytes) ≡ 1 + quoted_size q (b ∷ bytes) = size_plain (q ∷ b ∷ bytes) number ∙ size_quote q (b ∷ bytes) quote in
    before-quote q (b ∷ bytes) (length (q ∷ b ∷ bytes) - 2) (omega (arith, whole, size))

-- one of the two kinds of quote is missing
one-missing : (q : ℕ) (cs : List ℕ) → is_quote q ≡ true → Has q cs ≡ false → (list_any (λ c. c == byte "\"") cs && list_any (λ c. c == byte "'") cs) ≡ false
one-missing q cs e h = elim (or_cases (q == 34) (q == 39) e) [
  | inl f ↦ and_left (Has 34 cs) (Has 39 cs) (ap (λ (k : ℕ). Has k cs) (sym (eqb-true q 34 f)) ∙ h)
  | inr f ↦ and_right (Has 34 cs) (Has 39 cs) (ap (λ (k : ℕ). Has k cs) (sym (eqb-true q 39 f)) ∙ h)
]

value-none : IsSpelledValue []
value-none = record { characters = All-nil IsCharacter; in_line = refl; one_quote = refl }

value-spelled : (token : LineToken) → IsWholeToken token → is_quoted token.kind ≡ true → IsSpelledValue (quoted token.text)
value-spelled token ok quote =
    let text : List ℕ = token.text in
    let begins = kind-quoted text (ap is_quoted (sym ok.whole.is) ∙ quote) in
    let clean = inside-clean text begins.0 begins.1 ok.whole.size in
    cond_both (is_utf8 (inside text)) (chars (inside text)) [] IsSpelledValue
    (λ e.
    let utf8 : IsUtf8 (inside text) = IsUtf8-from_is_utf8 (inside text) e in
    record {
      characters = clean-characters (inside text) utf8 (clean-take (length text - 2) (drop 1 text) (clean-drop 1 text ok.sound.clean));
      in_line = inner-characters (chars (inside text)) (ap (list_all is_inner) (encodes-chars (inside text) utf8) ∙ inner-take (length text - 2) (drop 1 text) (inner-drop text ok.whole.inner));
      one_quote = one-missing (first_or_end text) (chars (inside text)) begins.1 (no-character (first_or_end text) (quote-ascii (first_or_end text) begins.1) (inside text) utf8 clean);
    })
    (λ e. value-none)

-- if a form is not broken, the text at a place for a value is a value that a source can have
pub value_at : (last at n : ℕ) (slots : List Slot) (tokens : List LineToken) → All IsWholeToken tokens → broken last at slots tokens ≡ None → slice_get slots n ≡ Some slot.Value
    → IsSpelledValue (quoted (text_at n tokens))
value_at last at n slots tokens ok whole there =
    let here = filled last at n slots tokens slot.Value whole there in
    subst (λ (text : List ℕ). IsSpelledValue (quoted text)) (sym (text_is n tokens here.token here.at))
    (value-spelled here.token (all_at IsWholeToken tokens ok n here.token here.at) (unless-none _ _ here.fits))

-- ---- keys

has-name : ℕ → Bool
has-name code = is_some (key_name code)

codes-named : list_all (λ (row : List ℕ × ℕ). has-name row.1) key_codes ≡ true
unfolding key_codes has-name
codes-named = refl

code-named : (name : List ℕ) (code : ℕ) → key_code name ≡ Some code → is_some (key_name code) ≡ true
unfolding has-name
code-named name code found = row-found has-name key_codes name code found codes-named

word-wordy : (sort : TokenKind) → is_word sort ≡ true → is_wordy sort ≡ true
word-wordy kind.Word e = refl
word-wordy other e = absurd (cc)

positive-code : (name : List ℕ) (code : ℕ) → key_code name ≡ Some code → code ≡ 0 → ⊥
unfolding key_codes
positive-code name code found none = let some = ltb-true 0 code (row-found (λ n. nat_lt 0 n) key_codes name code found refl) in omega (arith, some, none)

pub key_spelled : (flags : List LineToken) (token : LineToken) → IsWholeToken token → is_word token.kind ≡ true → is_key_name token.text ≡ true → IsSpelledKey (named_key (flags_of flags) token.text)
key_spelled flags token ok word named =
    let name : List ℕ = token.text in
    let read = key-read flags token ok.sound word named in
    by (key_code name) refl read
  where
    counts : IsReadKey (record { flags = flags_of flags; code = 0; name = token.text }) → is_name token.text ≡ true
    counts read =
        let own = (read.named refl).word in
        let same = counted-characters token.text own.utf8 in
        let some = own.some in
        let few = own.few in
        and_from (nat_lt 0 (character_count token.text)) (nat_le (character_count token.text) 80) (lt-ltb 0 (character_count token.text) (omega (arith, same, some))) (le-leb (character_count token.text) 80 (omega (arith, same, few)))

    by : (found : Option ℕ) → key_code token.text ≡ found
        → IsReadKey (elim found [ Some code ↦ record { flags = flags_of flags; code = code; name = [] } | None ↦ record { flags = flags_of flags; code = 0; name = token.text } ])
        → IsSpelledKey (elim found [ Some code ↦ record { flags = flags_of flags; code = code; name = [] } | None ↦ record { flags = flags_of flags; code = 0; name = token.text } ])
    by (Some code) e read = record {
      virtual = read.virtual;
      flags = read.flags;
      own = λ none. absurd (positive-code token.text code e none);
      known = λ other. (code-named token.text code e, refl);
    }
    by None e read = record {
      virtual = read.virtual;
      flags = read.flags;
      own = λ none. (no-code (key_code token.text) (is_own_key token.text) named e, name_spelled token ok (word-wordy token.kind word) (counts read));
      known = λ other. absurd (other refl);
    }
