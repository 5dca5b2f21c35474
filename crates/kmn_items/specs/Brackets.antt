-- Virtual keys in brackets.
use Rattle.std.specs.Prelude.{ℕ, Bool, ◌&&◌, List, [], fold, bit_or, Some, None, unwrap_or}
use Rattle.std.specs.List.{prefix_len}
use Rattle.kmn_base.specs.declared.keys.TheConstants.{VIRTUAL_KEY}
use Rattle.virtual_keys.specs.Keys.{key_code, shift_flag}
use Rattle.rule_model.specs.declared.program.SrcItem.{SrcItem}
use Rattle.rule_model.specs.declared.program.SrcItem.TheVariants as source
use Rattle.rule_model.specs.declared.program.KeyName.{KeyName}
use Rattle.kmn_items.specs.declared.syntax.Where.{Where}
use Rattle.kmn_items.specs.declared.syntax.Where.TheVariants as section
use Rattle.kmn_items.specs.TokenTexts.{LineToken, is_word}
use Rattle.kmn_items.specs.Words.{is_modifier}

-- the shift flag of a word
abbrev pub flag_of : List ℕ → ℕ
flag_of text = unwrap_or (shift_flag text) 0

-- flags with the flag of another word
abbrev pub with_flag : ℕ → LineToken → ℕ
with_flag flags token = bit_or flags (flag_of token.text)

-- the shift flags of words, above the flag of a virtual key
abbrev pub flags_of : List LineToken → ℕ
flags_of tokens = fold with_flag VIRTUAL_KEY tokens

-- a virtual key by its name; the name is kept if it has no code
abbrev pub named_key : ℕ → List ℕ → KeyName
named_key flags name = elim (key_code name) [
  | Some code ↦ record { flags = flags; code = code; name = [] }
  | None ↦ record { flags = flags; code = 0; name = name }
]

-- a virtual key as an item; in an output it is not supported
abbrev pub key_item : Where → KeyName → SrcItem
key_item section.Output key = source.OutOfProfile
key_item other key = source.Key key

-- whether a token is a modifier
abbrev pub is_modifier_token : LineToken → Bool
is_modifier_token token = is_word token.kind && is_modifier token.text

-- the number of modifiers at the beginning of tokens
abbrev pub modifier_count : List LineToken → ℕ
modifier_count tokens = prefix_len is_modifier_token tokens
