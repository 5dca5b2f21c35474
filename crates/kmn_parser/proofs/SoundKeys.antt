-- Virtual keys that are read: their flags, codes and names.
use Rattle.std.proofs.Common.{◌≡◌, ℕ, ◌^◌, ◌<◌, ◌≤◌, Bool, true, false, ◌&&◌, ◌||◌, if◌then◌else◌, cond, nat_lt, nat_le, nat_eq, bit_and, bit_or, List, [], ◌∷◌, length, Option, None, Some, is_some, option_map, unwrap_or, inl, inr, refl, ap, subst, arith}
use Rattle.std.specs.Prelude.{IsUtf8, chars, find, fold}
use Rattle.std.specs.List.{list_all}
use Rattle.std.specs.Int.{bit_at}
use Rattle.std.proofs.lemmas.Bool.{and_parts, or_cases, ltb-true, leb-true, eqb-true}
use Rattle.std.proofs.lemmas.Nat.Bits.{bit_at_and, bit_at_or, same_from_bits}
use Rattle.std.proofs.lemmas.Str.{encodes-chars, length-le-encodes}
use lib.Utf8.{encodes}
use Rattle.kmn_base.specs.Names.{same_name, named_in}
use Rattle.virtual_keys.specs.Dictionary.{name_chars}
use Rattle.virtual_keys.specs.Keys.{key_codes, shift_flags, key_code, shift_flag}
use Rattle.kmn_lines.specs.declared.token.TokenKind.{TokenKind}
use Rattle.kmn_lines.specs.declared.token.TokenKind.TheVariants as kind
use Rattle.kmn_items.specs.TokenTexts.{LineToken, is_word}
use Rattle.kmn_items.specs.Words.{is_touch_name, is_own_key, is_key_name}
use Rattle.kmn_base.specs.Texts.{character_count}
use Rattle.kmn_items.specs.Brackets.{flag_of, with_flag, flags_of, named_key}
use Rattle.kmn_parser.specs.ProgramLaws.{IsOwnKey, IsReadKey}
use Rattle.kmn_parser.proofs.CleanTexts.{clean-characters, counted-characters}
use Rattle.kmn_parser.proofs.SoundTokens.{IsSoundToken}

-- if each row of a table has a property, a number that is found in the table has it
pub row-found : (test : ℕ → Bool) (table : List (List ℕ × ℕ)) (name : List ℕ) (n : ℕ) → named_in table name ≡ Some n
    → list_all (λ (row : List ℕ × ℕ). test row.1) table ≡ true → test n ≡ true
row-found test [] name n found each = cc
row-found test (row ∷ rows) name n found each =
    let both = and_parts (test row.1) (list_all (λ (row : List ℕ × ℕ). test row.1) rows) each in
    (elim (same_name row.0 name) as (λ here. option_map (λ (row : List ℕ × ℕ). row.1) (cond here (Some row) (find (λ (row : List ℕ × ℕ). same_name row.0 name) rows)) ≡ Some n → test n ≡ true) [
      | true ↦ λ e. let same : row.1 ≡ n = cc in subst (λ (m : ℕ). test m ≡ true) same both.0
      | false ↦ λ e. row-found test rows name n e both.1
    ]) found

-- the code of a key is a number of 16 bits other than 0
abbrev is_code : ℕ → Bool
is_code code = nat_lt 0 code && nat_lt code 0x1_0000

codes-fit : (name : List ℕ) (code : ℕ) → key_code name ≡ Some code → (0 < code) × (code < 2 ^ 16)
unfolding key_codes
codes-fit name code found =
    let both = and_parts (nat_lt 0 code) (nat_lt code 0x1_0000) (row-found is_code key_codes name code found refl) in
    (ltb-true 0 code both.0, ltb-true code 0x1_0000 both.1)

-- the flags of a virtual key: its own bit, and only existing flags
record AreFlags (flags : ℕ) : Type 0 where
  virtual : bit_and flags 0x4000 ≡ 0x4000
  known : bit_and flags 0x437F ≡ flags

pub or-within : (a b mask : ℕ) → bit_and a mask ≡ a → bit_and b mask ≡ b → bit_and (bit_or a b) mask ≡ bit_or a b
or-within a b mask e f =
    same_from_bits (bit_and (bit_or a b) mask) (bit_or a b)
    (λ i.
    let g = bit_at_and a mask i in
    let h = bit_at_and b mask i in
    let k = ap (λ (n : ℕ). bit_at n i) e in
    let l = ap (λ (n : ℕ). bit_at n i) f in
    let m = bit_at_and (bit_or a b) mask i in
    let n = bit_at_or a b i in
    omega (arith, g, h, k, l, m, n))

or-keeps : (a b bit : ℕ) → bit_and a bit ≡ bit → bit_and (bit_or a b) bit ≡ bit
or-keeps a b bit e =
    same_from_bits (bit_and (bit_or a b) bit) bit
    (λ i.
    let g = bit_at_and a bit i in
    let k = ap (λ (n : ℕ). bit_at n i) e in
    let m = bit_at_and (bit_or a b) bit i in
    let n = bit_at_or a b i in
    omega (arith, g, k, m, n))

abbrev is_known : ℕ → Bool
is_known flag = nat_eq (bit_and flag 0x437F) flag

flag-either : (text : List ℕ) (found : Option ℕ) → shift_flag text ≡ found → bit_and (unwrap_or found 0) 0x437F ≡ unwrap_or found 0
unfolding shift_flags
flag-either text None e = refl
flag-either text (Some flag) e = eqb-true (bit_and flag 0x437F) flag (row-found is_known shift_flags text flag e refl)

flag-known : (text : List ℕ) → bit_and (flag_of text) 0x437F ≡ flag_of text
flag-known text = flag-either text (shift_flag text) refl

flags-folded : (flags : ℕ) (tokens : List LineToken) → AreFlags flags → AreFlags (fold with_flag flags tokens)
flags-folded flags [] are = are
flags-folded flags (token ∷ tokens) are =
    flags-folded (bit_or flags (flag_of token.text)) tokens
    (record { virtual = or-keeps flags (flag_of token.text) 0x4000 are.virtual; known = or-within flags (flag_of token.text) 0x437F are.known (flag-known token.text) })

flags-known : (tokens : List LineToken) → AreFlags (flags_of tokens)
flags-known tokens = flags-folded 0x4000 tokens (record { virtual = refl; known = refl })

word-kind : (sort : TokenKind) → is_word sort ≡ true → sort ≡ kind.Word
word-kind kind.Word e = refl
word-kind other e = cc

some-character : (text : List ℕ) → IsUtf8 text → 0 < length text → 1 ≤ length (chars text)
some-character text utf8 some =
    (elim (chars text) as (λ (cs : List ℕ). encodes cs ≡ text → 1 ≤ length cs) [
      | [] ↦ λ e. let none : 0 ≡ length text = ap length e in absurd (omega arith)
      | c ∷ cs ↦ λ e. omega arith
    ]) (encodes-chars text utf8)

-- a text has no more characters than bytes
few-characters : (text : List ℕ) → IsUtf8 text → length (chars text) ≤ length text
few-characters text utf8 = subst (λ (bytes : List ℕ). length (chars text) ≤ length bytes) (encodes-chars text utf8) (length-le-encodes (chars text))

some-own : (text : List ℕ) → is_own_key text ≡ true → 0 < length text
unfolding name_chars same_name
some-own [] own = cc
some-own (byte ∷ bytes) own = omega arith

unless-short : (short prefix : Bool) (found : Option (List ℕ)) → is_some (if short && prefix then found else None) ≡ true → short ≡ true
unless-short true prefix found e = refl
unless-short false prefix found e = cc

-- the name of a character has few bytes
short-own : (text : List ℕ) → is_some (name_chars text) ≡ true → length text ≤ 80
unfolding name_chars
short-own text e = leb-true (length text) 80 (unless-short (nat_le (length text) 80) _ _ e)

few-own : (text : List ℕ) → IsUtf8 text → is_own_key text ≡ true → length (chars text) ≤ 80
few-own text utf8 own =
    elim (or_cases (is_touch_name text) (is_some (name_chars text)) own) [
      | inl touch ↦
          let count : character_count text ≤ 80 = leb-true (character_count text) 80 (and_parts _ (nat_le (character_count text) 80) touch).1 in
          let same = counted-characters text utf8 in
          omega (arith, count, same)
      | inr named ↦ let short = short-own text named in let few = few-characters text utf8 in omega (arith, short, few)
    ]

-- a word that names a custom key
own-key : (token : LineToken) → IsSoundToken token → is_word token.kind ≡ true → is_own_key token.text ≡ true → IsOwnKey token.text
own-key token sound word own = record {
  word = record {
    utf8 = sound.utf8;
    characters = clean-characters token.text sound.utf8 sound.clean;
    some = some-character token.text sound.utf8 (some-own token.text own);
    few = few-own token.text sound.utf8 own;
  };
  plain = sound.word (word-kind token.kind word);
  form = own;
}

pub no-code : (code : Option ℕ) (own : Bool) → (is_some code || own) ≡ true → code ≡ None → own ≡ true
no-code None own e f = e
no-code (Some code) own e f = cc

-- the virtual key of a word that names a key
pub key-read : (flags : List LineToken) (token : LineToken) → IsSoundToken token → is_word token.kind ≡ true → is_key_name token.text ≡ true
    → IsReadKey (named_key (flags_of flags) token.text)
key-read flags token sound word named =
    let are = flags-known flags in
    let name : List ℕ = token.text in
    (elim (key_code name) as (λ (found : Option ℕ). key_code name ≡ found → IsReadKey (elim found [ Some code ↦ record { flags = flags_of flags; code = code; name = [] } | None ↦ record { flags = flags_of flags; code = 0; name = name } ])) [
      | Some code ↦ λ e.
          let fits = codes-fit name code e in
          record {
            virtual = are.virtual;
            flags = are.known;
            code = fits.1;
            named = λ zero_code. absurd (omega (arith, fits.0, zero_code));
            unnamed = λ other. refl;
          }
      | None ↦ λ e. record {
        virtual = are.virtual;
        flags = are.known;
        code = omega arith;
        named = λ none. own-key token sound word (no-code (key_code name) (is_own_key name) named e);
        unnamed = λ other. absurd (other refl);
      }
    ]) refl
