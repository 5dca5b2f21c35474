-- Written items can be separated again.
use Rattle.std.proofs.Common.{◌≡◌, ℕ, Bool, true, false, not, ◌&&◌, if◌then◌else◌, List, [], ◌∷◌, ◌++◌, drop, Option, None, Some, refl}
use Rattle.std.specs.Prelude.{nat_eq, bit_and, filter, map}
use Rattle.std.specs.Fmt.{decimal}
use Rattle.std.specs.List.{list_all}
use Rattle.std.proofs.lemmas.Bool.{and_from, not-true, and_parts}
use Rattle.kmn_lines.specs.Tokens.{begins_forbidden, starts_number, hex_value}
use Rattle.kmn_lines.specs.declared.token.TokenKind.{TokenKind}
use Rattle.kmn_lines.specs.declared.token.TokenKind.TheVariants as kind
use Rattle.virtual_keys.specs.Keys.{shift_flags}
use Rattle.rule_model.specs.declared.program.SrcItem.{SrcItem}
use Rattle.rule_model.specs.declared.program.SrcItem.TheVariants as source
use Rattle.kmn_items.specs.declared.syntax.Where.{Where}
use Rattle.kmn_items.specs.TokenTexts.{LineToken, is_wordy}
use Rattle.kmn_parser.specs.Printed.{printed}
use Rattle.kmn_parser.specs.Texts.{word, name_kind, name_token, bracket_closing, closing, comma, equal, unequal}
use Rattle.kmn_parser.specs.Items.{item_pieces, spaced_words, flag_words, key_text, value_token, option_name}
use Rattle.kmn_parser.proofs.LineForms.{is_word_text, is_still_byte, is_alone_c, ends_word, ends_clean, IsTokenText, AreSound}
use Rattle.kmn_parser.proofs.Forms.{IsPrinted, IsPrintedName}
use Rattle.kmn_parser.proofs.Hex.{char_number}

-- the words of a bracket
IsBracketWord : List ℕ → Bool
IsBracketWord text = is_word_text text && (list_all is_still_byte text && not (is_alone_c text))

bracket-sound : (blank clean : Bool) (texts : List (List ℕ)) (name : List ℕ) (rest : List (Option LineToken)) → list_all IsBracketWord texts ≡ true → (is_word_text name ≡ true) × (list_all is_still_byte name ≡ true) × (is_alone_c name ≡ false) → AreSound false true rest
    → AreSound blank clean (spaced_words texts (Some (word name) ∷ Some bracket_closing ∷ []) ++ rest)
unfolding IsBracketWord
bracket-sound blank clean [] name rest all ok more = ((ok.0, ok.1), (refl, λ e. ok.2), (refl, tt, more))
bracket-sound blank clean (text ∷ texts) name rest all ok more =
    let two = and_parts (is_word_text text && (list_all is_still_byte text && not (is_alone_c text))) _ all in
    let three = and_parts (is_word_text text) (list_all is_still_byte text && not (is_alone_c text)) two.0 in
    let four = and_parts (list_all is_still_byte text) (not (is_alone_c text)) three.1 in
    ((three.0, four.0), (refl, λ e. not-true _ four.1), bracket-sound true (ends_clean text) texts name rest two.1 ok more)

words-sound : (flags : ℕ) (rows : List (List ℕ × ℕ)) → list_all (λ row. IsBracketWord row.0) rows ≡ true → list_all IsBracketWord (map (λ row. row.0) (filter (λ row. not (nat_eq (bit_and flags row.1) 0)) rows)) ≡ true
words-sound flags [] e = refl
words-sound flags (row ∷ rows) e =
    let two = and_parts (IsBracketWord row.0) _ e in
    elim (not (nat_eq (bit_and flags row.1) 0)) as (λ b. list_all IsBracketWord (map (λ row. row.0) (if b then row ∷ filter (λ row. not (nat_eq (bit_and flags row.1) 0)) rows else filter (λ row. not (nat_eq (bit_and flags row.1) 0)) rows)) ≡ true) [
      | true ↦ and_from _ _ two.0 (words-sound flags rows two.1)
      | false ↦ words-sound flags rows two.1
    ]

table-sound : list_all (λ row. IsBracketWord row.0) shift_flags ≡ true
unfolding IsBracketWord shift_flags begins_forbidden
table-sound = refl

-- a name before a byte that ends a word
named-kind : (k : TokenKind) (clean : Bool) (name : List ℕ) (rest : List (Option LineToken)) → is_wordy k ≡ true → IsTokenText k name → ends_word (printed rest) ≡ true
    → ((c : Bool) → AreSound false c rest) → AreSound false clean (Some (record { kind = k; text = name }) ∷ rest)
named-kind kind.Word clean name rest wordy is ends more = (is, (ends, λ e. absurd cc), more (ends_clean name))
named-kind (kind.Number c) clean name rest wordy is ends more = (is, ends, more true)
named-kind other clean name rest wordy is ends more = absurd cc

pub wordy-name : (name : List ℕ) → is_wordy (name_kind name) ≡ true
wordy-name name = elim (starts_number name) as (λ b. is_wordy (if b then kind.Number (hex_value 0 (drop 2 name)) else kind.Word) ≡ true) [ true ↦ refl | false ↦ refl ]

pub name_sound : (clean : Bool) (name : List ℕ) (rest : List (Option LineToken)) → IsPrintedName name → ends_word (printed rest) ≡ true → ((c : Bool) → AreSound false c rest)
    → AreSound false clean (Some (name_token name) ∷ rest)
name_sound clean name rest ok ends more = named-kind (name_kind name) clean name rest (wordy-name name) ok.token ends more

-- a word, a parenthesis and a name in it
call-sound : (clean : Bool) (name : List ℕ) (rest : List (Option LineToken)) → IsPrintedName name → AreSound false true rest → AreSound false clean (Some (name_token name) ∷ Some closing ∷ rest)
call-sound clean name rest ok more = name_sound clean name (Some closing ∷ rest) ok refl (λ c. (refl, tt, more))

-- a name, a symbol and a value in parentheses
equal-sound : (name value : List ℕ) (rest : List (Option LineToken)) → IsPrintedName name → IsTokenText kind.Quoted (value_token value).text → AreSound false true rest
    → AreSound false true (Some (name_token name) ∷ None ∷ Some equal ∷ None ∷ Some (value_token value) ∷ Some closing ∷ rest)
equal-sound name value rest named sound more =
    name_sound true name (None ∷ Some equal ∷ None ∷ Some (value_token value) ∷ Some closing ∷ rest) named refl (λ c. (refl, tt, (sound, tt, (refl, tt, more))))

unequal-sound : (name value : List ℕ) (rest : List (Option LineToken)) → IsPrintedName name → IsTokenText kind.Quoted (value_token value).text → AreSound false true rest
    → AreSound false true (Some (name_token name) ∷ None ∷ Some unequal ∷ None ∷ Some (value_token value) ∷ Some closing ∷ rest)
unequal-sound name value rest named sound more =
    name_sound true name (None ∷ Some unequal ∷ None ∷ Some (value_token value) ∷ Some closing ∷ rest) named refl (λ c. (refl, tt, (sound, tt, (refl, tt, more))))

-- an item before a byte that ends a word
pub item_sound : (place : Where) (blank clean : Bool) (i : SrcItem) (rest : List (Option LineToken)) → IsPrinted place i → ends_word (printed rest) ≡ true → AreSound false true rest → AreSound blank clean (item_pieces i ++ rest)
unfolding begins_forbidden
item_sound place blank clean (source.Char c) rest ok ends more = (char_number c ok, ends, more)
item_sound place blank clean (source.Dead name) rest ok ends more = ((refl, refl), (refl, λ e. refl), (refl, tt, call-sound true name rest ok more))
item_sound place blank clean (source.Any name) rest ok ends more = ((refl, refl), (refl, λ e. refl), (refl, tt, call-sound true name rest ok more))
item_sound place blank clean (source.NotAny name) rest ok ends more = ((refl, refl), (refl, λ e. refl), (refl, tt, call-sound true name rest ok more))
item_sound place blank clean (source.Enter name) rest ok ends more = ((refl, refl), (refl, λ e. refl), (refl, tt, call-sound true name rest ok more))
item_sound place blank clean (source.Save name) rest ok ends more = ((refl, refl), (refl, λ e. refl), (refl, tt, call-sound true name rest ok more))
item_sound place blank clean (source.Reset name) rest ok ends more = ((refl, refl), (refl, λ e. refl), (refl, tt, call-sound true name rest ok more))
item_sound place blank clean (source.ContextAt offset) rest ok ends more = ((refl, refl), (refl, λ e. refl), (refl, tt, ((ok.is_word, ok.still), (refl, λ e. absurd cc), (refl, tt, more))))
item_sound place blank clean (source.Index name offset) rest (ok, k) ends more = (
  (refl, refl),
  (refl, λ e. refl),
  (
    refl,
    tt,
    name_sound true name (Some comma ∷ Some (word (decimal offset)) ∷ Some closing ∷ rest) ok refl
        (λ c. (refl, tt, ((k.is_word, k.still), (refl, λ e. absurd cc), (refl, tt, more)))),
  ),
)
item_sound place blank clean (source.Equal name value) rest ok ends more = ((refl, refl), (refl, λ e. refl), (refl, tt, equal-sound name value rest ok.named ok.sound more))
item_sound place blank clean (source.SystemEqual id value) rest ok ends more = ((refl, refl), (refl, λ e. refl), (refl, tt, equal-sound (option_name id) value rest ok.named ok.sound more))
item_sound place blank clean (source.Unequal name value) rest ok ends more = ((refl, refl), (refl, λ e. refl), (refl, tt, unequal-sound name value rest ok.named ok.sound more))
item_sound place blank clean (source.SystemUnequal id value) rest ok ends more = ((refl, refl), (refl, λ e. refl), (refl, tt, unequal-sound (option_name id) value rest ok.named ok.sound more))
item_sound place blank clean (source.Set name value) rest ok ends more = ((refl, refl), (refl, λ e. refl), (refl, tt, equal-sound name value rest ok.named ok.sound more))
item_sound place blank clean (source.SetSystem id value) rest ok ends more = ((refl, refl), (refl, λ e. refl), (refl, tt, equal-sound (option_name id) value rest ok.1.named ok.1.sound more))
item_sound place blank clean source.Context rest ok ends more = ((refl, refl), (ends, λ e. refl), more)
item_sound place blank clean source.Nul rest ok ends more = ((refl, refl), (ends, λ e. refl), more)
item_sound place blank clean source.Beep rest ok ends more = ((refl, refl), (ends, λ e. refl), more)
item_sound place blank clean source.Stop rest ok ends more = ((refl, refl), (ends, λ e. refl), more)
item_sound place blank clean (source.Key key) rest ok ends more =
    (refl, tt, bracket-sound false true (flag_words key.flags) (key_text key) rest (words-sound key.flags shift_flags table-sound) (ok.0.is_word, ok.0.still, ok.0.lone) more)
item_sound place blank clean other rest ok ends more = absurd ok
