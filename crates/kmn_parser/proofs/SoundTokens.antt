-- The tokens of a source that breaks no rule of tokens: their texts are UTF-8 without U+0000 and U+FFFF, their numbers are characters,
-- and their words are plain.
use Rattle.std.proofs.Common.{◌≡◌, ℕ, zero, suc, ◌+◌, ◌-◌, ◌<◌, ◌≤◌, ◌==◌, Bool, true, false, not, ◌&&◌, ◌||◌, if◌then◌else◌, cond, nat_lt, get_or, List, [], ◌∷◌, length, take, drop, Option, None, Some, option_map, unwrap_or, refl, sym, ◌∙◌, ap, subst, arith, length-drop}
use Rattle.std.specs.Prelude.{All, IsUtf8}
use Rattle.std.specs.Option.{option_or}
use Rattle.std.proofs.lemmas.Bool.{or_parts, eqb-false, cond_both}
use Rattle.std.proofs.lemmas.List.{length-take, drop-take, take-take}
use Rattle.std.proofs.lemmas.List.Elements.{All-cons, All-nil, All-append, All-head, All-tail, All-map}
use Rattle.kmn_base.specs.declared.codes.Code.{Code}
use Rattle.kmn_base.specs.declared.codes.Code.TheVariants.{L02, L03, L04}
use Rattle.kmn_lines.specs.declared.logical.Logical.{Logical}
use Rattle.kmn_lines.specs.declared.logical.Part.{Part}
use Rattle.kmn_lines.specs.declared.token.Token.{Token}
use Rattle.kmn_lines.specs.declared.token.TokenKind.{TokenKind}
use Rattle.kmn_lines.specs.declared.token.TokenKind.TheVariants as kind
use Rattle.kmn_base.specs.Bytes.{is_blank, is_quote}
use Rattle.kmn_base.proofs.Options.{option_or-none}
use Rattle.kmn_lines.specs.Bytes.{first_or_end}
use Rattle.kmn_lines.specs.Lines.{parts_in}
use Rattle.kmn_lines.specs.Tokens.{single, is_unequal, starts_number, hex_value, plain_kind, has_forbidden, is_closed, is_scalar, value_fault, digits_fault, token_size, token_text, token_kind, token_at, token_fault, scanned, first_fault, part_text, parts_tokens, parts_fault, line_tokens, line_refusal, tokens_refusal, refusal}
use Rattle.kmn_lines.specs.Laws.{IsPlain, bytes_between}
use Rattle.kmn_lines.proofs.TextSizes.{words_plain}
use Rattle.kmn_lines.proofs.Numbered.{drop-next}
use Rattle.kmn_items.specs.TokenTexts.{LineToken, text_of, with_text, with_texts}
use Rattle.kmn_parser.specs.ProgramLaws.{IsCharacter}

-- the text of a token breaks no rule of tokens, and is a text of the token's kind
pub record IsFaultless (sort : TokenKind) (text : List ℕ) : Type 0 where
  pub is : sort ≡ token_kind text
  pub faultless : token_fault text ≡ None
  pub word : sort ≡ kind.Word → All IsPlain text

abbrev IsFaultlessIn : List ℕ → Token → Type 0
IsFaultlessIn source t = IsFaultless t.kind (text_of source t)

taken-length : (n : ℕ) (bytes : List ℕ) → take (length (take n bytes)) bytes ≡ take n bytes
taken-length zero bytes = refl
taken-length (suc n) [] = refl
taken-length (suc n) (byte ∷ bytes) = ap (λ more. byte ∷ more) (taken-length n bytes)

-- the text of a token that begins with the bytes from a position on
pub text-at : (source : List ℕ) (end line at size : ℕ) (bytes : List ℕ) → drop at (take end source) ≡ bytes → 0 < length bytes
    → text_of source (token_at line at (take size bytes)) ≡ take size bytes
text-at source end line at size bytes e some =
    let text : List ℕ = take end source in
    let long : ℕ = length (take size bytes) in
    let few : long ≤ length bytes = omega (arith, length-take size bytes) in
    let left : length bytes ≡ length text - at = ap length (sym e) ∙ length-drop at text in
    let within : length text ≤ end = omega (arith, length-take end source) in
    let cut : take (at + long) text ≡ take (at + long) source = take-take (at + long) end source (omega arith) in
    ap (drop at) (sym cut) ∙ drop-take at long text ∙ ap (take long) e ∙ taken-length size bytes

token-faultless : (source : List ℕ) (end line at : ℕ) (bytes : List ℕ) → drop at (take end source) ≡ bytes → 0 < length bytes
    → token_fault (token_text bytes) ≡ None → IsFaultlessIn source (token_at line at (token_text bytes))
token-faultless source end line at bytes e some faultless =
    let same = text-at source end line at (token_size bytes) bytes e some in
    subst (IsFaultless (token_kind (token_text bytes))) (sym same)
    (record { is = refl; faultless = faultless; word = words_plain bytes some })

scanned-if : (source : List ℕ) (blank : Bool) (here more : List Token) (fault rest : Option Code)
    → (rest ≡ None → All (IsFaultlessIn source) here) → (fault ≡ None → All (IsFaultlessIn source) more)
    → (if blank then rest else fault) ≡ None → All (IsFaultlessIn source) (if blank then here else more)
scanned-if source true here more fault rest g h none = g none
scanned-if source false here more fault rest g h none = h none

scanned-faultless : (source : List ℕ) (end line n at : ℕ) (bytes : List ℕ) → drop at (take end source) ≡ bytes
    → first_fault n bytes ≡ None → All (IsFaultlessIn source) (scanned line n at bytes)
scanned-faultless source end line n at [] e none = All-nil (IsFaultlessIn source)
scanned-faultless source end line (suc n) at (byte ∷ bytes) e none =
    scanned-faultless source end line n (at + 1) bytes (drop-next at (take end source) byte bytes e) none
scanned-faultless source end line zero at (byte ∷ bytes) e none =
    let text : List ℕ = byte ∷ bytes in
    let next = drop-next at (take end source) byte bytes e in
    scanned-if source (is_blank byte) (scanned line zero (at + 1) bytes)
    (token_at line at (token_text text) ∷ scanned line (token_size text - 1) (at + 1) bytes)
    (option_or (token_fault (token_text text)) (first_fault (token_size text - 1) bytes)) (first_fault zero bytes)
    (λ rest. scanned-faultless source end line zero (at + 1) bytes next rest)
    (λ both.
    let parts = option_or-none (token_fault (token_text text)) (first_fault (token_size text - 1) bytes) both in
    All-cons (IsFaultlessIn source) (token_at line at (token_text text)) (scanned line (token_size text - 1) (at + 1) bytes)
    (token-faultless source end line at text e (omega arith) parts.0)
    (scanned-faultless source end line (token_size text - 1) (at + 1) bytes next parts.1))
    none

parts-faultless : (source : List ℕ) (ps : List Part) → parts_fault source ps ≡ None → All (IsFaultlessIn source) (parts_tokens source ps)
parts-faultless source [] none = All-nil (IsFaultlessIn source)
parts-faultless source (p ∷ ps) none =
    let both = option_or-none (first_fault 0 (part_text source p)) (parts_fault source ps) none in
    All-append (IsFaultlessIn source) (scanned p.line 0 p.from (part_text source p)) (parts_tokens source ps)
    (scanned-faultless source p.to p.line 0 p.from (part_text source p) refl both.0)
    (parts-faultless source ps both.1)

pub no-refusal : (line : ℕ) (code : Option Code) → option_map (refusal line) code ≡ None → code ≡ None
no-refusal line None e = refl
no-refusal line (Some code) e = cc

line-faultless : (source : List ℕ) (line : Logical) → line_refusal source line ≡ None → All (IsFaultlessIn source) (line_tokens source line)
unfolding line_tokens line_refusal
line-faultless source line none = parts-faultless source (parts_in source line) (no-refusal line.first_line (parts_fault source (parts_in source line)) none)

-- the number of a token is a character
abbrev pub IsSoundKind : TokenKind → Type 0
IsSoundKind (kind.Number c) = IsCharacter c
IsSoundKind other = Unit {0}

value-parts : (wrong valid : Bool) → (if wrong then Some L02 else (if valid then None else Some L04)) ≡ None → (wrong ≡ false) × (valid ≡ true)
value-parts true valid e = cc
value-parts false true e = (refl, refl)
value-parts false false e = cc

tested : (low high : Bool) → (low || high) ≡ true → cond low true high ≡ true
tested true high e = refl
tested false high e = e

value-character : (n : ℕ) → value_fault n ≡ None → IsCharacter n
value-character n e =
    let parts = value-parts ((n == 0) || (n == 0xFFFF)) (is_scalar n) e in
    let other = or_parts (n == 0) (n == 0xFFFF) parts.0 in
    record { valid = tested (nat_lt n 0xD800) (nat_lt 0xDFFF n && nat_lt n 0x11_0000) parts.1; not_first = eqb-false n 0 other.0; not_last = eqb-false n 0xFFFF other.1 }

behind-test : (test : Bool) (fault : Option Code) → (if test then fault else Some L04) ≡ None → fault ≡ None
behind-test true fault e = e
behind-test false fault e = cc

digits-character : (digits : List ℕ) → digits_fault digits ≡ None → IsCharacter (hex_value 0 digits)
digits-character digits e = value-character (hex_value 0 digits) (behind-test _ (value_fault (hex_value 0 digits)) e)

single-sound : (byte : ℕ) → IsSoundKind (unwrap_or (single byte) kind.Word)
single-sound byte =
    let P : Option TokenKind → Type 0 = λ (o : Option TokenKind). IsSoundKind (unwrap_or o kind.Word) in
    cond_both (byte == 40) _ _ P (λ e. tt) (λ e. cond_both (byte == 41) _ _ P (λ e. tt) (λ e. cond_both (byte == 91) _ _ P (λ e. tt)
    (λ e. cond_both (byte == 93) _ _ P (λ e. tt) (λ e. cond_both (byte == 62) _ _ P (λ e. tt) (λ e. cond_both (byte == 43) _ _ P (λ e. tt)
    (λ e. cond_both (byte == 61) _ _ P (λ e. tt) (λ e. cond_both (byte == 44) _ _ P (λ e. tt) (λ e. tt))))))))

plain-sound : (byte next : ℕ) → IsSoundKind (plain_kind byte next)
plain-sound byte next =
    cond_both (is_quote byte) _ _ IsSoundKind (λ e. tt) (λ e. cond_both (is_unequal byte next) _ _ IsSoundKind (λ e. tt) (λ e. single-sound byte))

fault-parts : (forbidden closed number : Bool) (digits : Option Code)
    → (if forbidden then Some L02 else (if not closed then Some L03 else (if number then digits else None))) ≡ None
    → (forbidden ≡ false) × (number ≡ true → digits ≡ None)
fault-parts true closed number digits e = cc
fault-parts false false number digits e = cc
fault-parts false true true digits e = (refl, λ f. e)
fault-parts false true false digits e = (refl, λ f. cc)

text-parts : (text : List ℕ) → token_fault text ≡ None → (has_forbidden text ≡ false) × (starts_number text ≡ true → digits_fault (drop 2 text) ≡ None)
unfolding token_fault
text-parts text e = fault-parts (has_forbidden text) (is_closed text) (starts_number text) (digits_fault (drop 2 text)) e

kind-sound : (text : List ℕ) → token_fault text ≡ None → IsSoundKind (token_kind text)
unfolding token_kind
kind-sound text e =
    cond_both (starts_number text) _ _ IsSoundKind
    (λ number. digits-character (drop 2 text) ((text-parts text e).1 number))
    (λ other. plain-sound (first_or_end text) (first_or_end (drop 1 text)))

-- a token that breaks no rule of tokens, with its text
pub record IsSoundToken (token : LineToken) : Type 0 where
  pub utf8 : IsUtf8 token.text
  pub clean : has_forbidden token.text ≡ false
  pub number : IsSoundKind token.kind
  pub word : token.kind ≡ kind.Word → All IsPlain token.text

token-sound : (source : List ℕ) (t : Token) → IsUtf8 (text_of source t) → IsFaultlessIn source t → IsSoundToken (with_text source t)
token-sound source t utf8 sound = record {
  utf8 = utf8;
  clean = (text-parts (text_of source t) sound.faultless).0;
  number = subst IsSoundKind (sym sound.is) (kind-sound (text_of source t) sound.faultless);
  word = sound.word;
}

abbrev pub IsText : List ℕ → Token → Type 0
IsText source t = IsUtf8 (bytes_between source t.from t.to)

-- the tokens of a line are sound
pub tokens-sound : (source : List ℕ) (line : Logical) → All (IsText source) (line_tokens source line) → line_refusal source line ≡ None
    → All IsSoundToken (with_texts source (line_tokens source line))
tokens-sound source line texts none =
    let faultless = line-faultless source line none in
    All-map IsSoundToken (with_text source) (line_tokens source line) (λ k d l. token-sound source (get_or (line_tokens source line) k d) (texts k d l) (faultless k d l))

abbrev pub HasSoundTokens : List ℕ → Logical → Type 0
HasSoundTokens source line = All IsSoundToken (with_texts source (line_tokens source line))

abbrev pub HasTexts : List ℕ → Logical → Type 0
HasTexts source line = All (IsText source) (line_tokens source line)

-- the tokens of all lines are sound
pub lines-sound : (source : List ℕ) (lines : List Logical) → All (HasTexts source) lines → tokens_refusal source lines ≡ None → All (HasSoundTokens source) lines
lines-sound source [] texts none = All-nil (HasSoundTokens source)
lines-sound source (line ∷ lines) texts none =
    let both = option_or-none (line_refusal source line) (tokens_refusal source lines) none in
    All-cons (HasSoundTokens source) line lines
    (tokens-sound source line (All-head (HasTexts source) line lines texts) both.0)
    (lines-sound source lines (All-tail (HasTexts source) line lines texts) both.1)
