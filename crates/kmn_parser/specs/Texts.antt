-- The tokens of a text.
use Rattle.std.specs.Prelude.{ℕ, zero, suc, ◌+◌, ◌/◌, ◌%◌, nat_lt, if◌then◌else◌, List, [], ◌∷◌, ◌++◌, drop}
use Rattle.kmn_lines.specs.Tokens.{starts_number, hex_value}
use Rattle.kmn_lines.specs.declared.token.TokenKind.{TokenKind}
use Rattle.kmn_lines.specs.declared.token.TokenKind.TheVariants as kind
use Rattle.kmn_items.specs.TokenTexts.{LineToken}

-- a hexadecimal digit in upper case
abbrev pub hex_glyph : ℕ → ℕ
hex_glyph n = if nat_lt n 10 then 48 + n else 55 + n

-- the last `count` hexadecimal digits of a number
abbrev pub hex_text : ℕ → ℕ → List ℕ
hex_text zero n = []
hex_text (suc count) n = hex_text count (n / 16) ++ hex_glyph (n % 16) ∷ []

-- the number of digits of a character: at least four
abbrev pub hex_count : ℕ → ℕ
hex_count c = if nat_lt c 0x1_0000 then 4 else if nat_lt c 0x10_0000 then 5 else 6

-- a written character: U+ and its digits
abbrev pub char_text : ℕ → List ℕ
char_text c = 85 ∷ 43 ∷ hex_text (hex_count c) c

-- a character as a token
abbrev pub char_token : ℕ → LineToken
char_token c = record { kind = kind.Number c; text = char_text c }

-- a word as a token
abbrev pub word : List ℕ → LineToken
word text = record { kind = kind.Word; text = text }

-- the kind of a name as a token: U+ and digits are a number, any other name is a word
abbrev pub name_kind : List ℕ → TokenKind
name_kind name = if starts_number name then kind.Number (hex_value 0 (drop 2 name)) else kind.Word

-- a name as a token
abbrev pub name_token : List ℕ → LineToken
name_token name = record { kind = name_kind name; text = name }

-- bytes between two quotes
abbrev pub quoted_token : ℕ → List ℕ → LineToken
quoted_token quote bytes = record { kind = kind.Quoted; text = quote ∷ (bytes ++ quote ∷ []) }

-- the symbols
abbrev pub opening : LineToken
opening = record { kind = kind.Open; text = 40 ∷ [] }

abbrev pub closing : LineToken
closing = record { kind = kind.Close; text = 41 ∷ [] }

abbrev pub bracket_opening : LineToken
bracket_opening = record { kind = kind.BracketOpen; text = 91 ∷ [] }

abbrev pub bracket_closing : LineToken
bracket_closing = record { kind = kind.BracketClose; text = 93 ∷ [] }

abbrev pub arrow : LineToken
arrow = record { kind = kind.Arrow; text = 62 ∷ [] }

abbrev pub plus : LineToken
plus = record { kind = kind.Plus; text = 43 ∷ [] }

abbrev pub equal : LineToken
equal = record { kind = kind.Equal; text = 61 ∷ [] }

abbrev pub comma : LineToken
comma = record { kind = kind.Comma; text = 44 ∷ [] }

abbrev pub unequal : LineToken
unequal = record { kind = kind.Unequal; text = 33 ∷ 61 ∷ [] }
