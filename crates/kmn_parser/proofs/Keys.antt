-- A virtual key is read as it is written: by the name of its code, or by its own name.
use Rattle.std.proofs.Common.{◌≡◌, ◌≢◌, ℕ, Bool, true, false, not, ◌&&◌, ◌||◌, if◌then◌else◌, ◌==◌, List, [], ◌∷◌, length, drop, Option, None, Some, is_some, refl, sym, ◌∙◌, ap, subst}
use Rattle.std.specs.Prelude.{nat_eq, nat_lt, nat_le, unwrap_or, option_map, find}
use Rattle.std.specs.Char.{to_ascii_lowercase}
use Rattle.std.specs.List.{list_all}
use Rattle.std.proofs.lemmas.Bool.{and_parts, and_from, or_right, ne_eqb, eqb-true, eq-eqb, eqb-false, cond-true, cond-false, not-true, and_left}
use Rattle.kmn_base.specs.Names.{same_name, named_in}
use Rattle.kmn_lines.specs.Tokens.{starts_number, begins_forbidden, hex_value}
use Rattle.kmn_lines.specs.declared.token.TokenKind.TheVariants as kind
use Rattle.virtual_keys.specs.Dictionary.{groups, group_chars, name_chars}
use Rattle.kmn_base.specs.declared.limits.TheConstants.{SOURCE_NAME_CHARS}
use Rattle.kmn_base.specs.Texts.{character_count}
use Rattle.virtual_keys.specs.Keys.{key_codes, key_code, shift_flags}
use Rattle.rule_model.specs.declared.program.KeyName.{KeyName}
use Rattle.kmn_items.specs.Words.{is_own_key, is_touch_name, is_modifier, is_key_name}
use Rattle.kmn_items.specs.Brackets.{named_key}
use Rattle.kmn_parser.specs.Items.{key_text}
use Rattle.kmn_parser.specs.Spelled.{IsSpelledKey}
use Rattle.kmn_parser.proofs.LineForms.{is_word_text, is_still_byte, is_alone_c, IsTokenText}
use Rattle.kmn_parser.proofs.Forms.{IsPrintedKey}
use Rattle.kmn_parser.proofs.Words.{number-second}
use Rattle.kmn_parser.proofs.Names.{spelled_name}
use Rattle.kmn_parser.proofs.Flags.{flags_back}

-- the value that a table has for a test passes each test that all its rows pass
pub record Found {A : Type 0} (f P : A → Bool) (o : Option A) : Type 0 where
  pub row : A
  pub is : o ≡ Some row
  pub passes : P row ≡ true
  pub chosen : f row ≡ true

found-here : {A : Type 0} (f P : A → Bool) (row : A) (rest : Option A) (b : Bool) → f row ≡ b → P row ≡ true → (is_some rest ≡ true → Found f P rest)
    → is_some (if b then Some row else rest) ≡ true → Found f P (if b then Some row else rest)
found-here f P row rest true e p more some = record { row = row; is = refl; passes = p; chosen = e }
found-here f P row rest false e p more some = more some

pub found : {A : Type 0} (f P : A → Bool) (rows : List A) → list_all P rows ≡ true → is_some (find f rows) ≡ true → Found f P (find f rows)
found f P [] all some = absurd cc
found f P (row ∷ rows) all some =
    let two = and_parts (P row) (list_all P rows) all in
    found-here f P row (find f rows) (f row) refl two.0 (found f P rows two.1) some

-- whether an optional number is this number
abbrev pub answers : Option ℕ → ℕ → Bool
answers None n = false
answers (Some k) n = nat_eq k n

pub answer-is : (o : Option ℕ) (n : ℕ) → answers o n ≡ true → o ≡ Some n
answer-is None n e = absurd cc
answer-is (Some k) n e = ap Some (eqb-true k n e)

-- whether the name of a code is a word and names the code
is_code_name : List ℕ × ℕ → Bool
is_code_name row =
    is_word_text row.0 && (list_all is_still_byte row.0 && (not (is_alone_c row.0) && (not (is_modifier row.0) && answers (key_code row.0) row.1)))

codes-named : list_all is_code_name key_codes ≡ true
unfolding is_code_name key_codes shift_flags same_name begins_forbidden
codes-named = refl

pub some-mapped : {A : Type 0} {B : Type 0} (f : A → B) (o : Option A) → is_some (option_map f o) ≡ true → is_some o ≡ true
some-mapped f None e = e
some-mapped f (Some x) e = refl

code-key : (key : KeyName) → IsSpelledKey key → key.code ≢ 0 → IsPrintedKey key
unfolding is_code_name
code-key key ok other =
    let known = ok.known other in
    let f : List ℕ × ℕ → Bool = λ row. nat_eq row.1 key.code in
    let here = found f is_code_name key_codes codes-named (some-mapped (λ row. row.0) (find f key_codes) known.0) in
    let row = here.row in
    let name : List ℕ = row.0 in
    let text : key_text key ≡ name = cond-false (nat_eq key.code 0) _ _ (ne_eqb key.code 0 other) ∙ ap (λ (o : Option (List ℕ × ℕ)). unwrap_or (option_map (λ row. row.0) o) []) here.is in
    let a = and_parts (is_word_text name) _ here.passes in
    let b = and_parts (list_all is_still_byte name) _ a.1 in
    let c = and_parts (not (is_alone_c name)) _ b.1 in
    let d = and_parts (not (is_modifier name)) (answers (key_code name) row.1) c.1 in
    let code : key_code name ≡ Some key.code = answer-is (key_code name) row.1 d.1 ∙ ap Some (eqb-true row.1 key.code here.chosen) in
    record {
      is_word = ap is_word_text text ∙ a.0;
      still = ap (list_all is_still_byte) text ∙ b.0;
      lone = ap is_alone_c text ∙ not-true _ c.0;
      apart = ap is_modifier text ∙ not-true _ d.0;
      known = ap is_key_name text ∙ ap (λ (o : Option ℕ). is_some o || is_own_key name) code;
      flagged = flags_back key.flags ok.virtual ok.flags;
      named = ap (named_key key.flags) text ∙ ap (λ (o : Option ℕ). elim o [
        | Some code ↦ record { flags = key.flags; code = code; name = [] }
        | None ↦ record { flags = key.flags; code = 0; name = name }
      ]) code ∙ (λ i. record { flags = key.flags; code = key.code; name = sym known.1 i });
    }

-- whether a name begins like a custom key's: with t or u, followed by _
abbrev begins_own : List ℕ → Bool
begins_own [] = false
begins_own (a ∷ []) = false
begins_own (a ∷ b ∷ bytes) = ((to_ascii_lowercase a == 116) || (to_ascii_lowercase a == 117)) && (to_ascii_lowercase b == 95)

touch-begins : (name : List ℕ) → is_touch_name name ≡ true → begins_own name ≡ true
unfolding same_name
touch-begins [] e = absurd cc
touch-begins (a ∷ []) e =
    let one = and_parts (((to_ascii_lowercase a == 116) && false) && nat_lt 2 1) (nat_le (character_count (a ∷ [])) 80) e in
    let two = and_parts ((to_ascii_lowercase a == 116) && false) (nat_lt 2 1) one.0 in
    let bad : false ≡ true = (and_parts (to_ascii_lowercase a == 116) false two.0).1 in
    absurd cc
touch-begins (a ∷ b ∷ bytes) e =
    let same : Bool = (to_ascii_lowercase a == 116) && ((to_ascii_lowercase b == 95) && true) in
    let one = and_parts (same && nat_lt 2 (length (a ∷ b ∷ bytes))) (nat_le (character_count (a ∷ b ∷ bytes)) 80) e in
    let two = and_parts same (nat_lt 2 (length (a ∷ b ∷ bytes))) one.0 in
    let three = and_parts (to_ascii_lowercase a == 116) ((to_ascii_lowercase b == 95) && true) two.0 in
    let four = and_parts (to_ascii_lowercase b == 95) true three.1 in
    and_from _ _ (ap (λ t. t || (to_ascii_lowercase a == 117)) three.0) four.0

pub tested : {A : Type 0} (b : Bool) (x : Option A) → is_some (if b then x else None) ≡ true → (b ≡ true) × (is_some x ≡ true)
tested true x e = (refl, e)
tested false x e = absurd cc

unicode-begins : (name : List ℕ) → is_some (name_chars name) ≡ true → begins_own name ≡ true
unfolding same_name name_chars
unicode-begins [] e =
    let one = tested (nat_le 0 SOURCE_NAME_CHARS && false) (group_chars (groups [])) e in
    let bad : false ≡ true = (and_parts (nat_le 0 SOURCE_NAME_CHARS) false one.0).1 in
    absurd cc
unicode-begins (a ∷ []) e =
    let one = tested (nat_le 1 SOURCE_NAME_CHARS && ((to_ascii_lowercase a == 117) && false)) (group_chars (groups [])) e in
    let two = and_parts (nat_le 1 SOURCE_NAME_CHARS) ((to_ascii_lowercase a == 117) && false) one.0 in
    let bad : false ≡ true = (and_parts (to_ascii_lowercase a == 117) false two.1).1 in
    absurd cc
unicode-begins (a ∷ b ∷ bytes) e =
    let same : Bool = (to_ascii_lowercase a == 117) && ((to_ascii_lowercase b == 95) && true) in
    let one = tested (nat_le (length (a ∷ b ∷ bytes)) SOURCE_NAME_CHARS && same) (group_chars (groups bytes)) e in
    let two = and_parts (nat_le (length (a ∷ b ∷ bytes)) SOURCE_NAME_CHARS) same one.0 in
    let three = and_parts (to_ascii_lowercase a == 117) ((to_ascii_lowercase b == 95) && true) two.1 in
    let four = and_parts (to_ascii_lowercase b == 95) true three.1 in
    and_from _ _ (or_right (to_ascii_lowercase a == 116) (to_ascii_lowercase a == 117) three.0) four.0

own-begins : (name : List ℕ) → is_own_key name ≡ true → begins_own name ≡ true
own-begins name e = elim (is_touch_name name) as (λ b. is_touch_name name ≡ b → (b || is_some (name_chars name)) ≡ true → begins_own name ≡ true) [
  | true ↦ λ is f. touch-begins name is
  | false ↦ λ is f. unicode-begins name f
] refl e

-- whether the name of a row begins with another letter
abbrev begins_other : List ℕ → Bool
begins_other [] = true
begins_other (x ∷ xs) = not ((to_ascii_lowercase x == 116) || (to_ascii_lowercase x == 117))

letters-differ : (x a : ℕ) → not ((x == 116) || (x == 117)) ≡ true → ((a == 116) || (a == 117)) ≡ true → (x == a) ≡ false
letters-differ x a e f = ne_eqb x a (λ same. clash same)
  where
    clash : x ≡ a → ⊥
    clash same = let g : ((x == 116) || (x == 117)) ≡ true = subst (λ (k : ℕ). ((k == 116) || (k == 117)) ≡ true) (sym same) f in let h : ((x == 116) || (x == 117)) ≡ false = not-true _ e in let k : true ≡ false = sym g ∙ h in absurd cc

name-differs : (row : List ℕ) (a : ℕ) (rest : List ℕ) → begins_other row ≡ true → ((to_ascii_lowercase a == 116) || (to_ascii_lowercase a == 117)) ≡ true → same_name row (a ∷ rest) ≡ false
unfolding same_name
name-differs [] a rest e f = refl
name-differs (x ∷ xs) a rest e f = and_left (to_ascii_lowercase x == to_ascii_lowercase a) _ (letters-differ (to_ascii_lowercase x) (to_ascii_lowercase a) e f)

none-named : (rows : List (List ℕ × ℕ)) (a : ℕ) (rest : List ℕ) → list_all (λ row. begins_other row.0) rows ≡ true → ((to_ascii_lowercase a == 116) || (to_ascii_lowercase a == 117)) ≡ true
    → named_in rows (a ∷ rest) ≡ None
none-named [] a rest all e = refl
none-named (row ∷ rows) a rest all e =
    let two = and_parts (begins_other row.0) (list_all (λ row. begins_other row.0) rows) all in
    ap (λ b. option_map (λ row. row.1) (if b then Some row else find (λ row. same_name row.0 (a ∷ rest)) rows)) (name-differs row.0 a rest two.0 e)
    ∙ none-named rows a rest two.1 e

codes-other : list_all (λ row. begins_other row.0) key_codes ≡ true
unfolding key_codes
codes-other = refl

flags-other : list_all (λ row. begins_other row.0) shift_flags ≡ true
unfolding shift_flags
flags-other = refl

-- what the name of a custom key is not
pub record IsOwnName (name : List ℕ) : Type 0 where
  pub word : starts_number name ≡ false
  pub lone : is_alone_c name ≡ false
  pub code : key_code name ≡ None
  pub flag : is_modifier name ≡ false

second-plus : (b : ℕ) → (to_ascii_lowercase b == 95) ≡ true → (b == 43) ≡ false
second-plus b e = ne_eqb b 43 (λ same. clash (subst (λ (k : ℕ). (to_ascii_lowercase k == 95) ≡ true) same e))
  where
    clash : (to_ascii_lowercase 43 == 95) ≡ true → ⊥
    clash f = absurd cc

own-name : (name : List ℕ) → begins_own name ≡ true → IsOwnName name
own-name [] e = absurd cc
own-name (a ∷ []) e = absurd cc
own-name (a ∷ b ∷ bytes) e =
    let two = and_parts ((to_ascii_lowercase a == 116) || (to_ascii_lowercase a == 117)) (to_ascii_lowercase b == 95) e in
    record {
      word = number-second a (b ∷ bytes) (second-plus b two.1);
      lone = refl;
      code = none-named key_codes a (b ∷ bytes) codes-other two.0;
      flag = ap is_some (none-named shift_flags a (b ∷ bytes) flags-other two.0);
    }

own-key : (key : KeyName) → IsSpelledKey key → key.code ≡ 0 → IsPrintedKey key
own-key key ok none =
    let own = ok.own none in
    let is = own-name key.name (own-begins key.name own.0) in
    let text : key_text key ≡ key.name = cond-true (nat_eq key.code 0) _ _ (eq-eqb key.code 0 none) in
    let token : IsTokenText kind.Word key.name = subst (λ (b : Bool). IsTokenText (if b then kind.Number (hex_value 0 (drop 2 key.name)) else kind.Word) key.name) is.word (spelled_name key.name own.1).token in
    record {
      is_word = ap is_word_text text ∙ token.0;
      still = ap (list_all is_still_byte) text ∙ token.1;
      lone = ap is_alone_c text ∙ is.lone;
      apart = ap is_modifier text ∙ is.flag;
      known = ap is_key_name text ∙ or_right (is_some (key_code key.name)) (is_own_key key.name) own.0;
      flagged = flags_back key.flags ok.virtual ok.flags;
      named = ap (named_key key.flags) text ∙ ap (λ (o : Option ℕ). elim o [
        | Some code ↦ record { flags = key.flags; code = code; name = [] }
        | None ↦ record { flags = key.flags; code = 0; name = key.name }
      ]) is.code ∙ (λ i. record { flags = key.flags; code = sym none i; name = key.name });
    }

pub spelled_key : (key : KeyName) → IsSpelledKey key → IsPrintedKey key
spelled_key key ok = elim (nat_eq key.code 0) as (λ b. nat_eq key.code 0 ≡ b → IsPrintedKey key) [
  | true ↦ λ e. own-key key ok (eqb-true key.code 0 e)
  | false ↦ λ e. code-key key ok (eqb-false key.code 0 e)
] refl
