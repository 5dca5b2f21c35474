-- Names, keys, values and items whose tokens are read as the same: what the proofs need, in the terms of reading.
use Rattle.std.specs.Prelude.{◌≡◌, ℕ, nat_eq, true, false, List, [], ◌∷◌, map, None, Some}
use Rattle.std.specs.Fmt.{decimal}
use Rattle.std.specs.List.{list_all}
use Rattle.kmn_lines.specs.declared.token.TokenKind.TheVariants as kind
use Rattle.rule_model.specs.declared.program.KeyName.{KeyName}
use Rattle.rule_model.specs.declared.program.SrcItem.{SrcItem}
use Rattle.rule_model.specs.declared.program.SrcItem.TheVariants as source
use Rattle.kmn_items.specs.declared.syntax.Where.{Where}
use Rattle.kmn_items.specs.declared.syntax.Seen.{Seen}
use Rattle.kmn_items.specs.TokenTexts.{quoted}
use Rattle.kmn_items.specs.Words.{is_name, is_system_name, bare_name, is_modifier, is_key_name}
use Rattle.kmn_items.specs.Forms.{option_id}
use Rattle.kmn_items.specs.Numbers.{is_offset, offset_value}
use Rattle.kmn_items.specs.Brackets.{flags_of, named_key, key_item}
use Rattle.kmn_items.specs.Standing.{standing_code}
use Rattle.kmn_parser.specs.ProgramLaws.{IsCharacter}
use Rattle.kmn_parser.specs.Texts.{word, name_kind}
use Rattle.kmn_parser.specs.Items.{flag_words, key_text, value_token, option_name}
use Rattle.kmn_parser.specs.Spelled.{item_lead, seen_lead}
use Rattle.kmn_parser.proofs.LineForms.{is_word_text, is_still_byte, is_alone_c, IsTokenText}

-- a name
pub record IsPrintedName (name : List ℕ) : Type 0 where
  pub token : IsTokenText (name_kind name) name
  pub fits : is_name name ≡ true

-- an offset
pub record IsPrintedOffset (offset : ℕ) : Type 0 where
  pub is_word : is_word_text (decimal offset) ≡ true
  pub still : list_all is_still_byte (decimal offset) ≡ true
  pub fits : is_offset (decimal offset) ≡ true
  pub value : offset_value (decimal offset) ≡ offset

-- a value in its quotes
pub record IsPrintedValue (value : List ℕ) : Type 0 where
  pub read : quoted (value_token value).text ≡ value
  pub sound : IsTokenText kind.Quoted (value_token value).text

-- an option's name, which is not the name of a system store, and a value
pub record IsPrintedOption (name value : List ℕ) : Type 0 where
  pub named : IsPrintedName name
  pub ordinary : is_system_name name ≡ false
  pub read : quoted (value_token value).text ≡ value
  pub sound : IsTokenText kind.Quoted (value_token value).text

-- a system option, whose name is the name of a system store, and a value
pub record IsPrintedSystem (id : ℕ) (value : List ℕ) : Type 0 where
  pub named : IsPrintedName (option_name id)
  pub system : is_system_name (option_name id) ≡ true
  pub bare : is_name (bare_name (option_name id)) ≡ true
  pub known : option_id (option_name id) ≡ Some id
  pub read : quoted (value_token value).text ≡ value
  pub sound : IsTokenText kind.Quoted (value_token value).text

-- a virtual key
pub record IsPrintedKey (key : KeyName) : Type 0 where
  pub is_word : is_word_text (key_text key) ≡ true
  pub still : list_all is_still_byte (key_text key) ≡ true
  pub lone : is_alone_c (key_text key) ≡ false
  pub apart : is_modifier (key_text key) ≡ false
  pub known : is_key_name (key_text key) ≡ true
  pub flagged : flags_of (map word (flag_words key.flags)) ≡ key.flags
  pub named : named_key key.flags (key_text key) ≡ key

-- an item
abbrev pub IsPrinted : Where → SrcItem → Type 0
IsPrinted place (source.Char c) = IsCharacter c
IsPrinted place (source.Dead name) = IsPrintedName name
IsPrinted place (source.Key key) = IsPrintedKey key × (key_item place key ≡ source.Key key)
IsPrinted place (source.Any name) = IsPrintedName name
IsPrinted place (source.NotAny name) = IsPrintedName name
IsPrinted place (source.Index name offset) = IsPrintedName name × IsPrintedOffset offset
IsPrinted place (source.ContextAt offset) = IsPrintedOffset offset
IsPrinted place (source.Equal name value) = IsPrintedOption name value
IsPrinted place (source.Unequal name value) = IsPrintedOption name value
IsPrinted place (source.SystemEqual id value) = IsPrintedSystem id value
IsPrinted place (source.SystemUnequal id value) = IsPrintedSystem id value
IsPrinted place (source.Enter name) = IsPrintedName name
IsPrinted place (source.Set name value) = IsPrintedOption name value
IsPrinted place (source.SetSystem id value) = (nat_eq id 33 ≡ true) × IsPrintedSystem id value
IsPrinted place (source.Save name) = IsPrintedName name
IsPrinted place (source.Reset name) = IsPrintedName name
IsPrinted place source.Context = Unit {0}
IsPrinted place source.Nul = Unit {0}
IsPrinted place source.Beep = Unit {0}
IsPrinted place source.Stop = Unit {0}
IsPrinted place other = ⊥

-- items, each of which is allowed after the previous ones
abbrev pub ArePrinted : Where → Seen → List SrcItem → Type 0
ArePrinted place seen [] = Unit {0}
ArePrinted place seen (i ∷ items) = IsPrinted place i × (standing_code place seen (item_lead i) ≡ None) × ArePrinted place (seen_lead seen (item_lead i)) items
