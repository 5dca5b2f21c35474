-- The items of programs as written.
use Rattle.std.specs.Prelude.{ℕ, not, nat_eq, bit_and, unwrap_or, filter, if◌then◌else◌, List, [], ◌∷◌, ◌++◌, ◌==◌, map, codes, Option, Some, None}
use Rattle.std.specs.Fmt.{decimal}
use Rattle.std.specs.List.{list_any}
use Rattle.std.specs.Str.{byte, encode_utf8_all}
use Rattle.virtual_keys.specs.Keys.{key_name, shift_flags}
use Rattle.rule_model.specs.declared.program.KeyName.{KeyName}
use Rattle.rule_model.specs.declared.program.SrcItem.{SrcItem}
use Rattle.rule_model.specs.declared.program.SrcItem.TheVariants as source
use Rattle.kmn_items.specs.TokenTexts.{LineToken}
use Rattle.kmn_parser.specs.Texts.{word, name_token, char_token, quoted_token, opening, closing, bracket_opening, bracket_closing, comma, equal, unequal}
use Rattle.rule_model.specs.declared.system.TheConstants.{PLATFORM}

-- a word and a token in parentheses
abbrev pub call : List ℕ → LineToken → List (Option LineToken)
call lead token = Some (word lead) ∷ Some opening ∷ Some token ∷ Some closing ∷ []

-- a word and a name in parentheses
abbrev pub named_call : List ℕ → List ℕ → List (Option LineToken)
named_call lead name = call lead (name_token name)

-- the modifier words of flags, in the order of their table
abbrev pub flag_words : ℕ → List (List ℕ)
flag_words flags = map (λ row. row.0) (filter (λ row. not (nat_eq (bit_and flags row.1) 0)) shift_flags)

-- the name of a key: the name of its code, or its own name
abbrev pub key_text : KeyName → List ℕ
key_text key = if nat_eq key.code 0 then key.name else unwrap_or (key_name key.code) []

-- words, each followed by a blank, and then the rest
abbrev pub spaced_words : List (List ℕ) → List (Option LineToken) → List (Option LineToken)
spaced_words [] more = more
spaced_words (text ∷ texts) more = Some (word text) ∷ None ∷ spaced_words texts more

-- a virtual key: its modifiers and its name in brackets
abbrev pub key_pieces : KeyName → List (Option LineToken)
key_pieces key =
    Some bracket_opening ∷ spaced_words (flag_words key.flags) (Some (word (key_text key)) ∷ Some bracket_closing ∷ [])

-- a value in quotes that do not occur in it
abbrev pub value_token : List ℕ → LineToken
value_token value = quoted_token (if list_any (λ c. c == byte "\"") value then byte "'" else byte "\"") (encode_utf8_all value)

-- a comparison, or a `set`
abbrev pub compared : List ℕ → List ℕ → LineToken → List ℕ → List (Option LineToken)
compared lead name sign value =
    Some (word lead) ∷ Some opening ∷ Some (name_token name) ∷ None ∷ Some sign ∷ None ∷ Some (value_token value) ∷ Some closing ∷ []

-- the name of a system option, with its &
abbrev pub option_name : ℕ → List ℕ
option_name id = if nat_eq id PLATFORM then codes "&platform" else codes "&layer"

-- an item; items that no compiled keyboard has are not written
abbrev pub item_pieces : SrcItem → List (Option LineToken)
item_pieces (source.Char c) = Some (char_token c) ∷ []
item_pieces (source.Dead name) = named_call (codes "dk") name
item_pieces (source.Key key) = key_pieces key
item_pieces (source.Any name) = named_call (codes "any") name
item_pieces (source.NotAny name) = named_call (codes "notany") name
item_pieces (source.Index name offset) =
    Some (word (codes "index")) ∷ Some opening ∷ Some (name_token name) ∷ Some comma ∷ Some (word (decimal offset)) ∷ Some closing ∷ []
item_pieces source.Context = Some (word (codes "context")) ∷ []
item_pieces (source.ContextAt offset) = call (codes "context") (word (decimal offset))
item_pieces (source.Equal name value) = compared (codes "if") name equal value
item_pieces (source.Unequal name value) = compared (codes "if") name unequal value
item_pieces (source.SystemEqual id value) = compared (codes "if") (option_name id) equal value
item_pieces (source.SystemUnequal id value) = compared (codes "if") (option_name id) unequal value
item_pieces source.Nul = Some (word (codes "nul")) ∷ []
item_pieces (source.Enter name) = named_call (codes "use") name
item_pieces (source.Set name value) = compared (codes "set") name equal value
item_pieces (source.SetSystem id value) = compared (codes "set") (option_name id) equal value
item_pieces (source.Save name) = named_call (codes "save") name
item_pieces (source.Reset name) = named_call (codes "reset") name
item_pieces source.Beep = Some (word (codes "beep")) ∷ []
item_pieces source.Stop = Some (word (codes "return")) ∷ []
item_pieces item = []

-- items, each followed by a blank, and then the rest
abbrev pub spaced_items : List SrcItem → List (Option LineToken) → List (Option LineToken)
spaced_items [] more = more
spaced_items (i ∷ items) more = item_pieces i ++ None ∷ spaced_items items more

-- items, each preceded by a blank
abbrev pub joined_items : List SrcItem → List (Option LineToken)
joined_items [] = []
joined_items (i ∷ items) = None ∷ (item_pieces i ++ joined_items items)
