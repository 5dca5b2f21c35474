-- When written lines can be read: each token can be separated again, and each line is whole.
use Rattle.std.specs.Prelude.{◌≡◌, ℕ, ◌+◌, ◌<◌, ◌≤◌, ◌==◌, Bool, true, false, not, ◌&&◌, ◌||◌, if◌then◌else◌, List, [], ◌∷◌, ◌++◌, length, flat_map, is_some, Option, Some, None, Ok}
use Rattle.std.specs.List.{list_all, list_any, starts_with}
use Rattle.std.specs.Str.{is_utf8}
use Rattle.kmn_base.specs.Bytes.{is_blank, is_quote}
use Rattle.kmn_base.specs.declared.limits.TheConstants.{TEXT_BYTES}
use Rattle.kmn_lines.specs.Bytes.{first_or_end}
use Rattle.kmn_lines.specs.Lines.{after_byte, line_start}
use Rattle.kmn_lines.specs.Tokens.{single, has_forbidden, all_digits, hex_value, value_fault, token_kind, token_size, token_fault}
use Rattle.kmn_lines.specs.declared.line_state.LineState.{LineState}
use Rattle.kmn_lines.specs.declared.logical.Logical.{Logical}
use Rattle.kmn_lines.specs.declared.token.TokenKind.{TokenKind}
use Rattle.kmn_lines.specs.declared.token.TokenKind.TheVariants as kind
use Rattle.rule_model.specs.declared.program.SrcItem.{SrcItem}
use Rattle.kmn_items.specs.TokenTexts.{LineToken}
use Rattle.kmn_parser.specs.declared.statement.LastGroup.{LastGroup}
use Rattle.kmn_parser.specs.declared.statement.Statement.{Statement}
use Rattle.kmn_parser.specs.Line.{read_line}
use Rattle.kmn_parser.specs.Source.{group_after}
use Rattle.kmn_parser.specs.Printed.{printed}
use Rattle.kmn_parser.specs.Names.{is_inner}
use Rattle.kmn_parser.specs.Items.{item_pieces}

-- the tokens of a line
abbrev pub tokens_in : List (Option LineToken) → List LineToken
tokens_in [] = []
tokens_in (None ∷ ps) = tokens_in ps
tokens_in (Some token ∷ ps) = token ∷ tokens_in ps

-- the tokens of items
abbrev pub items_tokens : List SrcItem → List LineToken
items_tokens items = flat_map (λ (i : SrcItem). tokens_in (item_pieces i)) items

-- a token that is read back before a text
pub record IsReadBack (token : LineToken) (rest : List ℕ) : Type 0 where
  pub some : 0 < length token.text
  pub solid : is_blank (first_or_end token.text) ≡ false
  pub size : token_size (token.text ++ rest) ≡ length token.text
  pub kind : token_kind token.text ≡ token.kind
  pub sound : token_fault token.text ≡ None

-- each token of a line is read back before what follows it
abbrev pub AreReadBack : List (Option LineToken) → Type 0
AreReadBack [] = Unit {0}
AreReadBack (None ∷ ps) = AreReadBack ps
AreReadBack (Some token ∷ ps) = IsReadBack token (printed ps) × AreReadBack ps

-- whether a byte is allowed in a word
abbrev pub is_plain_byte : ℕ → Bool
is_plain_byte byte = not (is_blank byte || is_quote byte || is_some (single byte))

-- whether a text is a word
abbrev pub is_word_text : List ℕ → Bool
is_word_text [] = false
is_word_text (byte ∷ bytes) = list_all is_plain_byte (byte ∷ bytes) && not (has_forbidden (byte ∷ bytes))

-- whether a byte is a byte of a word, in a line
abbrev pub is_still_byte : ℕ → Bool
is_still_byte byte = is_plain_byte byte && is_inner byte

-- whether a byte ends a word: a blank or one of ( ) , ]
abbrev pub ends_byte : ℕ → Bool
ends_byte byte = is_blank byte || (byte == 40) || (byte == 41) || (byte == 44) || (byte == 93)

-- whether a text begins with a byte that ends a word
abbrev pub ends_word : List ℕ → Bool
ends_word [] = true
ends_word (byte ∷ bytes) = ends_byte byte

-- whether a text does not end with a backslash
abbrev pub ends_clean : List ℕ → Bool
ends_clean [] = true
ends_clean (byte ∷ []) = not (byte == 92)
ends_clean (byte ∷ next ∷ bytes) = ends_clean (next ∷ bytes)

-- whether a text is only a c, which would begin a comment after a blank
abbrev pub is_alone_c : List ℕ → Bool
is_alone_c [] = false
is_alone_c (byte ∷ []) = (byte == 99) || (byte == 67)
is_alone_c (byte ∷ next ∷ bytes) = false

-- a text in quotes
pub record IsQuotedText (quote : ℕ) (text : List ℕ) : Type 0 where
  pub bytes : List ℕ
  pub is : text ≡ quote ∷ (bytes ++ quote ∷ [])
  pub apart : list_any (λ b. b == quote) bytes ≡ false
  pub inner : list_all is_inner bytes ≡ true
  pub allowed : has_forbidden (quote ∷ (bytes ++ quote ∷ [])) ≡ false

-- U+ or u+ and the 4 to 6 hexadecimal digits of a character
pub record IsNumberText (c : ℕ) (text : List ℕ) : Type 0 where
  pub upper : Bool
  pub digits : List ℕ
  pub is : text ≡ (if upper then 85 else 117) ∷ 43 ∷ digits
  pub some : 4 ≤ length digits
  pub few : length digits ≤ 6
  pub all : all_digits digits ≡ true
  pub value : hex_value 0 digits ≡ c
  pub valid : value_fault c ≡ None

-- a text that is a token of a kind
abbrev pub IsTokenText : TokenKind → List ℕ → Type 0
IsTokenText kind.Word text = (is_word_text text ≡ true) × (list_all is_still_byte text ≡ true)
IsTokenText (kind.Number c) text = IsNumberText c text
IsTokenText kind.Quoted text = (double : Bool) × IsQuotedText (if double then 34 else 39) text
IsTokenText kind.Open text = text ≡ 40 ∷ []
IsTokenText kind.Close text = text ≡ 41 ∷ []
IsTokenText kind.BracketOpen text = text ≡ 91 ∷ []
IsTokenText kind.BracketClose text = text ≡ 93 ∷ []
IsTokenText kind.Arrow text = text ≡ 62 ∷ []
IsTokenText kind.Plus text = text ≡ 43 ∷ []
IsTokenText kind.Equal text = text ≡ 61 ∷ []
IsTokenText kind.Comma text = text ≡ 44 ∷ []
IsTokenText kind.Unequal text = text ≡ 33 ∷ 61 ∷ []

-- what must follow a token, given whether a blank precedes it
abbrev pub IsFollowed : TokenKind → Bool → List ℕ → List ℕ → Type 0
IsFollowed kind.Word blank text rest = (ends_word rest ≡ true) × (blank ≡ true → is_alone_c text ≡ false)
IsFollowed (kind.Number c) blank text rest = ends_word rest ≡ true
IsFollowed other blank text rest = Unit {0}

-- whether a token does not end with a backslash
abbrev pub is_clean : TokenKind → List ℕ → Bool
is_clean kind.Word text = ends_clean text
is_clean other text = true

-- whether tokens can be separated again, given whether a blank precedes them, and whether a backslash does not
abbrev pub AreSound : Bool → Bool → List (Option LineToken) → Type 0
AreSound blank clean [] = clean ≡ true
AreSound blank clean (None ∷ ps) = AreSound true clean ps
AreSound blank clean (Some token ∷ ps) =
    IsTokenText token.kind token.text × IsFollowed token.kind blank token.text (printed ps) × AreSound false (is_clean token.kind token.text) ps

-- the logical lines of rows
abbrev pub row_lines : ℕ → ℕ → List (List ℕ) → List Logical
row_lines number at [] = []
row_lines number at (line ∷ lines) =
    record { first_line = number; from = at; to = at + length line + 1 } ∷ row_lines (number + 1) (at + length line + 1) lines

-- the state after a text in a line
abbrev pub read_on : LineState → ℕ → List ℕ → LineState
read_on r at [] = r
read_on r at (byte ∷ bytes) = read_on (after_byte r at byte (first_or_end bytes)) (at + 1) bytes

-- whether a line does not begin with a blank or a $
abbrev pub begins_plainly : List ℕ → Bool
begins_plainly [] = false
begins_plainly (byte ∷ bytes) = not (is_blank byte || (byte == 36))

-- a line that is one whole part: it has no comment, no join and no prefix
pub record IsWholeLine (line : List ℕ) : Type 0 where
  pub inner : list_all is_inner line ≡ true
  pub start : begins_plainly line ≡ true
  pub stop : (at : ℕ) → (read_on line_start at line).stop ≡ None
  pub slash : (at : ℕ) → (read_on line_start at line).slash ≡ None

-- lines are read, one by one, as these statements
abbrev pub ReadAsStatements : LastGroup → ℕ → List (List (Option LineToken)) → List Statement → Type 0
ReadAsStatements group number [] statements = statements ≡ []
ReadAsStatements group number (line ∷ lines) [] = ⊥
ReadAsStatements group number (line ∷ lines) (s ∷ statements) =
    AreReadBack line × IsWholeLine (printed line) × (read_line group number (tokens_in line) ≡ Ok s)
    × ReadAsStatements (group_after group s) (number + 1) lines statements

-- a text that is allowed as a source
pub record IsSourceText (text : List ℕ) : Type 0 where
  pub few : length text ≤ TEXT_BYTES
  pub utf8 : is_utf8 text ≡ true
  pub unmarked : starts_with (λ a b. a == b) text (0xEF ∷ 0xBB ∷ 0xBF ∷ []) ≡ false
