-- The length of a text: line by line, and at least a given length for each item.
use Rattle.std.proofs.Common.{◌≡◌, ℕ, suc, ◌+◌, ◌<◌, ◌≤◌, true, false, ◌&&◌, ◌||◌, if◌then◌else◌, List, [], ◌∷◌, ◌++◌, length, take, ◌^◌, ◌==◌, Option, None, Some, is_some, refl, sym, ◌∙◌, ap, subst, arith, append_assoc, length-append}
use Rattle.std.specs.Prelude.{codes, nat_eq, nat_lt, nat_le, option_map, unwrap_or}
use Rattle.std.specs.Fmt.{decimal}
use Rattle.std.specs.List.{list_all, list_any}
use Rattle.std.specs.Str.{encode_utf8_all}
use Rattle.std.proofs.lemmas.List.{append-nil}
use lib.Utf8.{encodes}
use Rattle.std.proofs.lemmas.Bool.{and_parts, cond_both, eqb-true, eqb-false, ltb-true, leb-true}
use Rattle.std.proofs.lemmas.Fmt.{decimal_nonempty}
use Rattle.kmn_base.specs.Names.{same_name}
use Rattle.std.specs.Char.{to_ascii_lowercase}
use Rattle.kmn_base.specs.declared.limits.TheConstants.{SOURCE_NAME_CHARS}
use Rattle.virtual_keys.specs.Dictionary.{groups, group_chars, name_chars}
use Rattle.virtual_keys.specs.Keys.{key_codes, key_name}
use Rattle.rule_model.specs.declared.program.KeyName.{KeyName}
use Rattle.rule_model.specs.declared.program.SrcItem.{SrcItem}
use Rattle.rule_model.specs.declared.program.SrcItem.TheVariants as source
use Rattle.kmn_items.specs.Words.{is_own_key, is_touch_name}
use Rattle.kmn_items.specs.declared.syntax.Where.{Where}
use Rattle.kmn_items.specs.TokenTexts.{LineToken}
use Rattle.kmn_parser.specs.ProgramLaws.{IsCharacter}
use Rattle.kmn_parser.specs.Printed.{printed, sheet}
use Rattle.kmn_parser.specs.Texts.{char_text, word, bracket_closing, equal, unequal}
use Rattle.kmn_parser.specs.Items.{named_call, compared, option_name, value_token, flag_words, key_text, spaced_words, key_pieces, item_pieces}
use Rattle.kmn_parser.specs.Spelled.{IsSpelledName, IsSpelledKey, IsSpelledItem}
use Rattle.kmn_parser.proofs.Hex.{char_number}
use Rattle.kmn_parser.proofs.Names.{spelled_name, name-some}
use Rattle.kmn_parser.proofs.Keys.{found, some-mapped, tested}

-- the text of lines after other lines
pub sheet_append : (xs ys : List (List (Option LineToken))) → sheet (xs ++ ys) ≡ sheet xs ++ sheet ys
sheet_append [] ys = refl
sheet_append (line ∷ xs) ys = ap (λ (text : List ℕ). printed line ++ 10 ∷ text) (sheet_append xs ys) ∙ sym (append_assoc (printed line) (10 ∷ sheet xs) (sheet ys))

-- a line is one byte longer than its pieces
pub sheet_length : (line : List (Option LineToken)) (lines : List (List (Option LineToken))) → length (sheet (line ∷ lines)) ≡ length (printed line) + 1 + length (sheet lines)
sheet_length line lines =
    let all : length (sheet (line ∷ lines)) ≡ length (printed line) + length (10 ∷ sheet lines) = length-append (printed line) (10 ∷ sheet lines) in
    omega (arith, all)

-- the text of pieces after other pieces
pub printed_append : (ps qs : List (Option LineToken)) → printed (ps ++ qs) ≡ printed ps ++ printed qs
printed_append [] qs = refl
printed_append (None ∷ ps) qs = ap (λ (text : List ℕ). 32 ∷ text) (printed_append ps qs)
printed_append (Some token ∷ ps) qs = ap (λ (text : List ℕ). token.text ++ text) (printed_append ps qs) ∙ sym (append_assoc token.text (printed ps) (printed qs))

-- a lower bound for the length of an item's text, which includes all bytes of a value
abbrev pub least_length : SrcItem → ℕ
least_length (source.Char c) = 6
least_length (source.Dead name) = 5
least_length (source.Key key) = 5
least_length (source.Any name) = 6
least_length (source.NotAny name) = 9
least_length (source.Index name offset) = 10
least_length source.Context = 7
least_length (source.ContextAt offset) = 10
least_length (source.Equal name value) = 9 + length (encode_utf8_all value)
least_length (source.Unequal name value) = 10 + length (encode_utf8_all value)
least_length (source.SystemEqual id value) = 9 + length (encode_utf8_all value)
least_length (source.SystemUnequal id value) = 10 + length (encode_utf8_all value)
least_length source.Nul = 3
least_length (source.Enter name) = 6
least_length (source.Set name value) = 10 + length (encode_utf8_all value)
least_length (source.SetSystem id value) = 10 + length (encode_utf8_all value)
least_length (source.Save name) = 7
least_length (source.Reset name) = 8
least_length source.Beep = 4
least_length source.Stop = 6
least_length other = 0

has-byte : (name : List ℕ) → IsSpelledName name → 0 < length name
has-byte name ok = name-some name (spelled_name name ok).fits

named-least : (lead name : List ℕ) → IsSpelledName name → length lead + 3 ≤ length (printed (named_call lead name))
named-least lead name ok =
    let all : length (printed (named_call lead name)) ≡ length lead + length (40 ∷ (name ++ 41 ∷ [])) = length-append lead (40 ∷ (name ++ 41 ∷ [])) in
    let inner : length (name ++ 41 ∷ []) ≡ length name + 1 = length-append name (41 ∷ []) in
    let some = has-byte name ok in
    omega (arith, all, inner, some)

compared-long : (lead name : List ℕ) (sign : LineToken) (value : List ℕ) → length lead + length name + length sign.text + 3 + length (value_token value).text ≤ length (printed (compared lead name sign value))
compared-long lead name sign value =
    let text : List ℕ = (value_token value).text in
    let a : length (printed (compared lead name sign value)) ≡ length lead + length (40 ∷ (name ++ 32 ∷ (sign.text ++ 32 ∷ (text ++ 41 ∷ [])))) = length-append lead (40 ∷ (name ++ 32 ∷ (sign.text ++ 32 ∷ (text ++ 41 ∷ [])))) in
    let b : length (name ++ 32 ∷ (sign.text ++ 32 ∷ (text ++ 41 ∷ []))) ≡ length name + length (32 ∷ (sign.text ++ 32 ∷ (text ++ 41 ∷ []))) = length-append name _ in
    let c : length (sign.text ++ 32 ∷ (text ++ 41 ∷ [])) ≡ length sign.text + length (32 ∷ (text ++ 41 ∷ [])) = length-append sign.text _ in
    let d : length (text ++ 41 ∷ []) ≡ length text + 1 = length-append text (41 ∷ []) in
    omega (arith, a, b, c, d)

-- a value has two quotes around its bytes
value-long : (value : List ℕ) → length (value_token value).text ≡ 2 + length (encodes value)
value-long value = quotes (if list_any (λ c. c == 34) value then 39 else 34)
  where
    quotes : (quote : ℕ) → length (quote ∷ (encodes value ++ quote ∷ [])) ≡ 2 + length (encodes value)
    quotes quote = let a : length (encodes value ++ quote ∷ []) ≡ length (encodes value) + 1 = length-append (encodes value) (quote ∷ []) in omega (arith, a)

-- a comparison or a `set` also has all bytes of its value
test-least : (lead name : List ℕ) (sign : LineToken) (value : List ℕ) → 0 < length name → length lead + length sign.text + 6 + length (encodes value) ≤ length (printed (compared lead name sign value))
test-least lead name sign value some = let a = compared-long lead name sign value in let b = value-long value in omega (arith, a, b, some)

option-long : (id : ℕ) → 0 < length (option_name id)
option-long id = cond_both (nat_eq id 31) _ _ (λ text. 0 < length text) (λ e. omega arith) (λ e. omega arith)

keys-long : (texts : List (List ℕ)) (more : List (Option LineToken)) → length (printed more) ≤ length (printed (spaced_words texts more))
keys-long [] more = omega arith
keys-long (text ∷ texts) more =
    let rest = keys-long texts more in
    let all : length (printed (spaced_words (text ∷ texts) more)) ≡ length text + length (32 ∷ printed (spaced_words texts more)) = length-append text (32 ∷ printed (spaced_words texts more)) in
    omega (arith, rest, all)

-- the name of each key has at least three bytes
codes-long : list_all (λ row. nat_le 3 (length row.0)) key_codes ≡ true
unfolding key_codes
codes-long = refl

touch-long : (name : List ℕ) → is_touch_name name ≡ true → 3 ≤ length name
touch-long name e =
    let one = and_parts _ _ e in let two = and_parts (same_name (take 2 name) (codes "T_")) (nat_lt 2 (length name)) one.0 in
    let more : 2 < length name = ltb-true 2 (length name) two.1 in omega (arith, more)

unicode-long : (name : List ℕ) → is_some (name_chars name) ≡ true → 3 ≤ length name
unfolding same_name name_chars
unicode-long [] e =
    let one = tested (nat_le 0 SOURCE_NAME_CHARS && false) (group_chars (groups [])) e in
    let bad : false ≡ true = (and_parts (nat_le 0 SOURCE_NAME_CHARS) false one.0).1 in
    absurd cc
unicode-long (a ∷ []) e =
    let one = tested (nat_le 1 SOURCE_NAME_CHARS && ((to_ascii_lowercase a == 117) && false)) (group_chars (groups [])) e in
    let bad : false ≡ true = one.1 in
    absurd cc
unicode-long (a ∷ b ∷ []) e =
    let one = tested (nat_le 2 SOURCE_NAME_CHARS && ((to_ascii_lowercase a == 117) && ((to_ascii_lowercase b == 95) && true))) (group_chars (groups [])) e in
    let bad : false ≡ true = one.1 in
    absurd cc
unicode-long (a ∷ b ∷ c ∷ bytes) e = omega arith

own-long : (name : List ℕ) → is_own_key name ≡ true → 3 ≤ length name
own-long name e = elim (is_touch_name name) as (λ b. is_touch_name name ≡ b → (b || is_some (name_chars name)) ≡ true → 3 ≤ length name) [
  | true ↦ λ is f. touch-long name is
  | false ↦ λ is f. unicode-long name f
] refl e

key-name-long : (key : KeyName) → IsSpelledKey key → 3 ≤ length (key_text key)
key-name-long key ok = elim (nat_eq key.code 0) as (λ b. nat_eq key.code 0 ≡ b → 3 ≤ length (if b then key.name else unwrap_or (key_name key.code) [])) [
  | true ↦ λ e. own-long key.name (ok.own (eqb-true key.code 0 e)).0
  | false ↦ λ e.
      let here = found (λ (row : List ℕ × ℕ). nat_eq row.1 key.code) (λ row. nat_le 3 (length row.0)) key_codes codes-long (some-mapped (λ row. row.0) _ (ok.known (eqb-false key.code 0 e)).0) in
      subst (λ (o : Option (List ℕ × ℕ)). 3 ≤ length (unwrap_or (option_map (λ row. row.0) o) [])) (sym here.is) (leb-true 3 (length here.row.0) here.passes)
] refl

key-least : (key : KeyName) → IsSpelledKey key → 5 ≤ length (printed (key_pieces key))
key-least key ok =
    let some = key-name-long key ok in
    let rest = keys-long (flag_words key.flags) (Some (word (key_text key)) ∷ Some bracket_closing ∷ []) in
    let inner : length (printed (Some (word (key_text key)) ∷ Some bracket_closing ∷ [])) ≡ length (key_text key) + 1 = length-append (key_text key) (93 ∷ []) in
    let all : length (printed (key_pieces key)) ≡ suc (length (printed (spaced_words (flag_words key.flags) (Some (word (key_text key)) ∷ Some bracket_closing ∷ [])))) = refl in
    omega (arith, some, rest, inner, all)

index-least : (name : List ℕ) (offset : ℕ) → IsSpelledName name → offset < 10 ^ 9 → 10 ≤ length (printed (item_pieces (source.Index name offset)))
index-least name offset ok small =
    let a : length (name ++ 44 ∷ (decimal offset ++ 41 ∷ [])) ≡ length name + length (44 ∷ (decimal offset ++ 41 ∷ [])) = length-append name _ in
    let b : length (decimal offset ++ 41 ∷ []) ≡ length (decimal offset) + 1 = length-append (decimal offset) (41 ∷ []) in
    let all : length (printed (item_pieces (source.Index name offset))) ≡ suc (suc (suc (suc (suc (suc (length (name ++ 44 ∷ (decimal offset ++ 41 ∷ [])))))))) = refl in
    let some = has-byte name ok in
    let digit = decimal_nonempty offset (omega (arith, small)) in
    omega (arith, a, b, all, some, digit)

at-least : (offset : ℕ) → offset < 10 ^ 9 → 10 ≤ length (printed (item_pieces (source.ContextAt offset)))
at-least offset small =
    let b : length (decimal offset ++ 41 ∷ []) ≡ length (decimal offset) + 1 = length-append (decimal offset) (41 ∷ []) in
    let all : length (printed (item_pieces (source.ContextAt offset))) ≡ suc (suc (suc (suc (suc (suc (suc (suc (length (decimal offset ++ 41 ∷ []))))))))) = refl in
    let digit = decimal_nonempty offset (omega (arith, small)) in
    omega (arith, b, all, digit)

char-least : (c : ℕ) → IsCharacter c → 6 ≤ length (printed (item_pieces (source.Char c)))
char-least c ok =
    let number = char_number c ok in
    let some = number.some in
    let all : length (printed (item_pieces (source.Char c))) ≡ length (char_text c) = ap length (append-nil (char_text c)) in
    let long : length (char_text c) ≡ suc (suc (length number.digits)) = ap length number.is in
    omega (arith, some, all, long)

-- each item that a text can express has at least this length
pub item_long : (place : Where) (i : SrcItem) → IsSpelledItem place i → least_length i ≤ length (printed (item_pieces i))
item_long place (source.Char c) ok = char-least c ok
item_long place (source.Dead name) ok = named-least (codes "dk") name ok
item_long place (source.Key key) ok = key-least key ok.1
item_long place (source.Any name) ok = named-least (codes "any") name ok
item_long place (source.NotAny name) ok = named-least (codes "notany") name ok
item_long place (source.Index name offset) ok = index-least name offset ok.0 ok.1
item_long place source.Context ok = omega arith
item_long place (source.ContextAt offset) ok = at-least offset ok
item_long place (source.Equal name value) ok = test-least (codes "if") name equal value (has-byte name ok.0.named)
item_long place (source.Unequal name value) ok = test-least (codes "if") name unequal value (has-byte name ok.0.named)
item_long place (source.SystemEqual id value) ok = test-least (codes "if") (option_name id) equal value (option-long id)
item_long place (source.SystemUnequal id value) ok = test-least (codes "if") (option_name id) unequal value (option-long id)
item_long place source.Nul ok = omega arith
item_long place (source.Enter name) ok = named-least (codes "use") name ok
item_long place (source.Set name value) ok = test-least (codes "set") name equal value (has-byte name ok.0.named)
item_long place (source.SetSystem id value) ok = test-least (codes "set") (option_name id) equal value (option-long id)
item_long place (source.Save name) ok = named-least (codes "save") name ok
item_long place (source.Reset name) ok = named-least (codes "reset") name ok
item_long place source.Beep ok = omega arith
item_long place source.Stop ok = omega arith
item_long place other ok = absurd ok
