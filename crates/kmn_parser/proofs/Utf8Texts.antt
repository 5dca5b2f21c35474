-- The text of a program that a text can express is UTF-8 and does not begin with a byte order mark.
use Rattle.std.proofs.Common.{◌≡◌, ℕ, zero, suc, ◌^◌, ◌<◌, Bool, true, false, not, if◌then◌else◌, ◌==◌, List, [], ◌∷◌, ◌++◌, map, Option, None, Some, refl, ◌∙◌, ap, arith}
use Rattle.std.specs.Prelude.{codes, nat_eq, nat_lt, bit_and, filter, option_map, unwrap_or}
use Rattle.std.specs.Str.{IsAscii, is_utf8}
use Rattle.std.specs.Fmt.{decimal}
use Rattle.std.specs.List.{list_all, list_any}
use Rattle.std.proofs.lemmas.Bool.{and_parts, and_from, cond_both, ltb-true, eqb-true, eqb-false}
use Rattle.std.proofs.lemmas.Fmt.{IsAscii-decimal}
use Rattle.std.proofs.lemmas.Str.{IsUtf8-append, IsUtf8-from_ascii, IsUtf8-from_is_utf8, is_utf8-from_IsUtf8}
use lib.Utf8.{encodes}
use Rattle.virtual_keys.specs.Keys.{key_codes, key_name, shift_flags}
use Rattle.rule_model.specs.declared.program.KeyName.{KeyName}
use Rattle.rule_model.specs.declared.program.SrcItem.{SrcItem}
use Rattle.rule_model.specs.declared.program.SrcItem.TheVariants as source
use Rattle.kmn_items.specs.declared.syntax.Where.{Where}
use Rattle.kmn_items.specs.declared.syntax.Seen.{Seen}
use Rattle.kmn_items.specs.TokenTexts.{LineToken}
use Rattle.kmn_parser.specs.Printed.{printed, rows, sheet}
use Rattle.kmn_parser.specs.Texts.{hex_text, hex_count, char_text, word, bracket_closing, equal, unequal}
use Rattle.kmn_parser.specs.Items.{named_call, compared, option_name, flag_words, key_text, spaced_words, value_token, item_pieces, spaced_items, joined_items}
use Rattle.kmn_parser.specs.Spelled.{IsSpelledValue, IsSpelledKey, IsSpelledItem, AreSpelled, item_lead, seen_lead}
use Rattle.kmn_parser.proofs.Hex.{is_ascii_byte, digits-ascii, digits-hex}
use Rattle.kmn_parser.proofs.Values.{all-scalars}
use Rattle.kmn_parser.proofs.Keys.{found, some-mapped}

ascii-bytes : (bytes : List ℕ) → list_all is_ascii_byte bytes ≡ true → IsAscii bytes
ascii-bytes [] e i = omega arith
ascii-bytes (b ∷ bytes) e zero = let two = and_parts (is_ascii_byte b) (list_all is_ascii_byte bytes) e in ltb-true b 128 (and_parts (nat_lt 0 b) (nat_lt b 128) two.0).1
ascii-bytes (b ∷ bytes) e (suc i) = ascii-bytes bytes (and_parts (is_ascii_byte b) (list_all is_ascii_byte bytes) e).1 i

-- a text of ASCII
pub ascii : (bytes : List ℕ) → list_all is_ascii_byte bytes ≡ true → is_utf8 bytes ≡ true
ascii bytes e = is_utf8-from_IsUtf8 bytes (IsUtf8-from_ascii bytes (ascii-bytes bytes e))

pub joined : (xs ys : List ℕ) → is_utf8 xs ≡ true → is_utf8 ys ≡ true → is_utf8 (xs ++ ys) ≡ true
joined xs ys e f = is_utf8-from_IsUtf8 (xs ++ ys) (IsUtf8-append xs ys (IsUtf8-from_is_utf8 xs e) (IsUtf8-from_is_utf8 ys f))

-- the tokens of a line are UTF-8
abbrev pub AreTexts : List (Option LineToken) → Type 0
AreTexts [] = Unit {0}
AreTexts (None ∷ ps) = AreTexts ps
AreTexts (Some token ∷ ps) = (is_utf8 token.text ≡ true) × AreTexts ps

line-text : (ps : List (Option LineToken)) → AreTexts ps → is_utf8 (printed ps) ≡ true
line-text [] ok = ascii [] refl
line-text (None ∷ ps) ok = joined (32 ∷ []) (printed ps) (ascii (32 ∷ []) refl) (line-text ps ok)
line-text (Some token ∷ ps) (here, ok) = joined token.text (printed ps) here (line-text ps ok)

pub texts-append : (ps qs : List (Option LineToken)) → AreTexts ps → AreTexts qs → AreTexts (ps ++ qs)
texts-append [] qs ok more = more
texts-append (None ∷ ps) qs ok more = texts-append ps qs ok more
texts-append (Some token ∷ ps) qs (here, ok) more = (here, texts-append ps qs ok more)

-- lines of such tokens
abbrev pub AreLines : List (List (Option LineToken)) → Type 0
AreLines [] = Unit {0}
AreLines (line ∷ lines) = AreTexts line × AreLines lines

pub lines-append : (xs ys : List (List (Option LineToken))) → AreLines xs → AreLines ys → AreLines (xs ++ ys)
lines-append [] ys ok more = more
lines-append (line ∷ xs) ys (here, ok) more = (here, lines-append xs ys ok more)

pub sheet-text : (lines : List (List (Option LineToken))) → AreLines lines → is_utf8 (sheet lines) ≡ true
sheet-text [] ok = ascii [] refl
sheet-text (line ∷ lines) (here, ok) = joined (printed line) (10 ∷ sheet lines) (line-text line here) (joined (10 ∷ []) (sheet lines) (ascii (10 ∷ []) refl) (sheet-text lines ok))

-- items
named-texts : (lead name : List ℕ) → list_all is_ascii_byte lead ≡ true → is_utf8 name ≡ true → AreTexts (named_call lead name)
named-texts lead name e f = (ascii lead e, (ascii (40 ∷ []) refl, (f, (ascii (41 ∷ []) refl, tt))))

quote-text : (double : Bool) (cs : List ℕ) → is_utf8 (encodes cs) ≡ true → is_utf8 ((if double then 39 else 34) ∷ (encodes cs ++ (if double then 39 else 34) ∷ [])) ≡ true
quote-text true cs e = joined (39 ∷ []) (encodes cs ++ 39 ∷ []) (ascii (39 ∷ []) refl) (joined (encodes cs) (39 ∷ []) e (ascii (39 ∷ []) refl))
quote-text false cs e = joined (34 ∷ []) (encodes cs ++ 34 ∷ []) (ascii (34 ∷ []) refl) (joined (encodes cs) (34 ∷ []) e (ascii (34 ∷ []) refl))

pub value-text : (value : List ℕ) → IsSpelledValue value → is_utf8 (value_token value).text ≡ true
value-text value ok = quote-text (list_any (λ c. c == 34) value) value (is_utf8-from_IsUtf8 (encodes value) (value, (all-scalars value ok.characters, refl)))

compared-texts : (lead name : List ℕ) (sign : LineToken) (value : List ℕ) → list_all is_ascii_byte lead ≡ true → is_utf8 name ≡ true → is_utf8 sign.text ≡ true → IsSpelledValue value → AreTexts (compared lead name sign value)
compared-texts lead name sign value e f g ok = (ascii lead e, (ascii (40 ∷ []) refl, (f, (g, (value-text value ok, (ascii (41 ∷ []) refl, tt))))))

decimal-text : (n : ℕ) → n < 2 ^ 64 → is_utf8 (decimal n) ≡ true
decimal-text n small = is_utf8-from_IsUtf8 (decimal n) (IsUtf8-from_ascii (decimal n) (IsAscii-decimal n small))

are_ascii_rows : List (List ℕ × ℕ) → Bool
are_ascii_rows rows = list_all (λ row. list_all is_ascii_byte row.0) rows

flags-ascii : are_ascii_rows shift_flags ≡ true
unfolding are_ascii_rows shift_flags
flags-ascii = refl

codes-ascii : are_ascii_rows key_codes ≡ true
unfolding are_ascii_rows key_codes
codes-ascii = refl

kept-ascii : (flags : ℕ) (rows : List (List ℕ × ℕ)) → are_ascii_rows rows ≡ true → list_all (λ text. list_all is_ascii_byte text) (map (λ row. row.0) (filter (λ row. not (nat_eq (bit_and flags row.1) 0)) rows)) ≡ true
unfolding are_ascii_rows
kept-ascii flags [] e = refl
kept-ascii flags (row ∷ rows) e =
    let two = and_parts (list_all is_ascii_byte row.0) (are_ascii_rows rows) e in
    elim (not (nat_eq (bit_and flags row.1) 0)) as (λ b. list_all (λ text. list_all is_ascii_byte text) (map (λ row. row.0) (if b then row ∷ filter (λ row. not (nat_eq (bit_and flags row.1) 0)) rows else filter (λ row. not (nat_eq (bit_and flags row.1) 0)) rows)) ≡ true) [
      | true ↦ and_from _ _ two.0 (kept-ascii flags rows two.1)
      | false ↦ kept-ascii flags rows two.1
    ]

words-texts : (texts : List (List ℕ)) (more : List (Option LineToken)) → list_all (λ text. list_all is_ascii_byte text) texts ≡ true → AreTexts more → AreTexts (spaced_words texts more)
words-texts [] more e ok = ok
words-texts (text ∷ texts) more e ok = let two = and_parts (list_all is_ascii_byte text) _ e in (ascii text two.0, words-texts texts more two.1 ok)

key-name-text : (key : KeyName) → IsSpelledKey key → is_utf8 (key_text key) ≡ true
unfolding are_ascii_rows
key-name-text key ok = elim (nat_eq key.code 0) as (λ b. nat_eq key.code 0 ≡ b → is_utf8 (if b then key.name else unwrap_or (key_name key.code) []) ≡ true) [
  | true ↦ λ e. (ok.own (eqb-true key.code 0 e)).1.utf8
  | false ↦ λ e.
      let here = found (λ (row : List ℕ × ℕ). nat_eq row.1 key.code) (λ row. list_all is_ascii_byte row.0) key_codes codes-ascii (some-mapped (λ row. row.0) _ (ok.known (eqb-false key.code 0 e)).0) in
      ap (λ (o : Option (List ℕ × ℕ)). is_utf8 (unwrap_or (option_map (λ row. row.0) o) [])) here.is ∙ ascii here.row.0 here.passes
] refl

key-texts : (key : KeyName) → IsSpelledKey key → AreTexts (item_pieces (source.Key key))
key-texts key ok = (
  ascii (91 ∷ []) refl,
  words-texts (flag_words key.flags) (Some (word (key_text key)) ∷ Some bracket_closing ∷ []) (kept-ascii key.flags shift_flags flags-ascii)
      (key-name-text key ok, (ascii (93 ∷ []) refl, tt)),
)

char-text : (c : ℕ) → is_utf8 (char_text c) ≡ true
char-text c = ascii (char_text c) (and_from true _ refl (and_from true _ refl (digits-ascii (hex_text (hex_count c) c) (digits-hex (hex_count c) c))))

option-text : (id : ℕ) → is_utf8 (option_name id) ≡ true
option-text id = cond_both (nat_eq id 31) _ _ (λ text. is_utf8 text ≡ true) (λ e. ascii (codes "&platform") refl) (λ e. ascii (codes "&layer") refl)

pub item-texts : (place : Where) (i : SrcItem) → IsSpelledItem place i → AreTexts (item_pieces i)
item-texts place (source.Char c) ok = (char-text c, tt)
item-texts place (source.Dead name) ok = named-texts (codes "dk") name refl ok.utf8
item-texts place (source.Key key) ok = key-texts key ok.1
item-texts place (source.Any name) ok = named-texts (codes "any") name refl ok.utf8
item-texts place (source.NotAny name) ok = named-texts (codes "notany") name refl ok.utf8
item-texts place (source.Index name offset) ok =
    (ascii (codes "index") refl, (ascii (40 ∷ []) refl, (ok.0.utf8, (ascii (44 ∷ []) refl, (decimal-text offset (let small : offset < 10 ^ 9 = ok.1 in omega arith), (ascii (41 ∷ []) refl, tt))))))
item-texts place source.Context ok = (ascii (codes "context") refl, tt)
item-texts place (source.ContextAt offset) ok =
    (ascii (codes "context") refl, (ascii (40 ∷ []) refl, (decimal-text offset (let small : offset < 10 ^ 9 = ok in omega arith), (ascii (41 ∷ []) refl, tt))))
item-texts place (source.Equal name value) ok = compared-texts (codes "if") name equal value refl ok.0.named.utf8 (ascii (61 ∷ []) refl) ok.1
item-texts place (source.Unequal name value) ok = compared-texts (codes "if") name unequal value refl ok.0.named.utf8 (ascii (33 ∷ 61 ∷ []) refl) ok.1
item-texts place (source.SystemEqual id value) ok = compared-texts (codes "if") (option_name id) equal value refl (option-text id) (ascii (61 ∷ []) refl) ok.1
item-texts place (source.SystemUnequal id value) ok = compared-texts (codes "if") (option_name id) unequal value refl (option-text id) (ascii (33 ∷ 61 ∷ []) refl) ok.1
item-texts place source.Nul ok = (ascii (codes "nul") refl, tt)
item-texts place (source.Enter name) ok = named-texts (codes "use") name refl ok.utf8
item-texts place (source.Set name value) ok = compared-texts (codes "set") name equal value refl ok.0.named.utf8 (ascii (61 ∷ []) refl) ok.1
item-texts place (source.SetSystem id value) ok = compared-texts (codes "set") (option_name id) equal value refl (option-text id) (ascii (61 ∷ []) refl) ok.1
item-texts place (source.Save name) ok = named-texts (codes "save") name refl ok.utf8
item-texts place (source.Reset name) ok = named-texts (codes "reset") name refl ok.utf8
item-texts place source.Beep ok = (ascii (codes "beep") refl, tt)
item-texts place source.Stop ok = (ascii (codes "return") refl, tt)
item-texts place other ok = absurd ok

pub joined-texts : (place : Where) (seen : Seen) (items : List SrcItem) → AreSpelled place seen items → AreTexts (joined_items items)
joined-texts place seen [] ok = tt
joined-texts place seen (i ∷ items) (ok, stands, more) = texts-append (item_pieces i) (joined_items items) (item-texts place i ok) (joined-texts place (seen_lead seen (item_lead i)) items more)

pub spaced-texts : (place : Where) (seen : Seen) (items : List SrcItem) (rest : List (Option LineToken)) → AreSpelled place seen items → AreTexts rest → AreTexts (spaced_items items rest)
spaced-texts place seen [] rest ok more = more
spaced-texts place seen (i ∷ items) rest (ok, stands, more) behind =
    texts-append (item_pieces i) (None ∷ spaced_items items rest) (item-texts place i ok) (spaced-texts place (seen_lead seen (item_lead i)) items rest more behind)
