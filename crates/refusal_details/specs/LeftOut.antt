-- The word of a line that is not supported.
use Rattle.std.specs.Prelude.{ℕ, Bool, true, false, not, ◌&&◌, ◌||◌, if◌then◌else◌, List, [], ◌∷◌, codes}
use Rattle.kmn_base.specs.Names.{same_name}
use Rattle.kmn_lines.specs.declared.token.TokenKind.{TokenKind}
use Rattle.kmn_lines.specs.declared.token.TokenKind.TheVariants as kind
use Rattle.kmn_items.specs.TokenTexts.{LineToken, is_open, text_at}
use Rattle.kmn_items.specs.Words.{is_system_name}

-- the kinds of two tokens: [ and >
abbrev pub is_bracket_open : TokenKind → Bool
is_bracket_open kind.BracketOpen = true
is_bracket_open other = false

abbrev pub is_arrow : TokenKind → Bool
is_arrow kind.Arrow = true
is_arrow other = false

-- the word before a token that is a parenthesis, or no word if the token is none
abbrev pub opened_by : List ℕ → TokenKind → List ℕ
opened_by previous kind = if is_open kind then previous else []

-- the name of the first call, after a text and after the word of a parenthesis that opens there
abbrev pub called : List ℕ → List ℕ → List LineToken → List ℕ
called previous word [] = []
called previous word (token ∷ tokens) =
    if same_name (codes "call") word then token.text else called token.text (opened_by previous token.kind) tokens

-- whether a word begins an item that is not supported anywhere
unfoldable pub is_left_out : List ℕ → Bool
is_left_out text =
    same_name (codes "switch") text || same_name (codes "clearcontext") text || same_name (codes "fix") text
    || same_name (codes "baselayout") text

-- whether a name after an opening parenthesis is that of a system store that is not supported there: a condition can test the layer and the
-- platform, and an output can set the layer
unfoldable pub is_other_system : Bool → List ℕ → Bool
is_other_system output name =
    is_system_name name && not (same_name (codes "&layer") name) && (output || not (same_name (codes "&platform") name))

-- whether a token begins something that is not supported, after an opening parenthesis or not, and in an output or not: such a word, which
-- is a name after a parenthesis, such a name, or a virtual key in an output
unfoldable pub begins_left_out : Bool → Bool → TokenKind → List ℕ → Bool
begins_left_out opened output kind text =
    (not opened && is_left_out text) || (opened && is_other_system output text) || (output && is_bracket_open kind)

-- the text of the first token that begins something that is not supported, or an empty text
abbrev pub item_left_out : Bool → Bool → List LineToken → List ℕ
item_left_out opened output [] = []
item_left_out opened output (token ∷ tokens) =
    if begins_left_out opened output token.kind token.text then token.text
    else item_left_out (is_open token.kind) (output || is_arrow token.kind) tokens

-- whether a word after begin is one that only the language of Keyman Developer has there
unfoldable pub is_other_begin : List ℕ → Bool
is_other_begin word = same_name (codes "NewContext") word || same_name (codes "PostKeystroke") word

-- the word after begin if it is such a word, or an empty text
abbrev pub other_begin : List ℕ → List ℕ
other_begin word = if is_other_begin word then word else []

-- whether a token with this text is the word readonly, and not a name after a parenthesis
unfoldable pub is_readonly : Bool → List ℕ → Bool
is_readonly opened text = not opened && same_name (codes "readonly") text

-- the first word readonly, after an opening parenthesis or not, or an empty text
abbrev pub readonly_in : Bool → List LineToken → List ℕ
readonly_in opened [] = []
readonly_in opened (token ∷ tokens) = if is_readonly opened token.text then token.text else readonly_in (is_open token.kind) tokens

-- the word of a begin or a group statement that only the language of Keyman Developer has, or an empty text
unfoldable pub statement_left_out : List LineToken → List ℕ
statement_left_out tokens =
    if same_name (codes "begin") (text_at 0 tokens) then other_begin (text_at 1 tokens)
    else (if same_name (codes "group") (text_at 0 tokens) then readonly_in false tokens else [])

-- the name of a store statement, or the text of the first token of a rule that begins something that is not supported
unfoldable pub left_out : List LineToken → List ℕ
left_out tokens = if same_name (codes "store") (text_at 0 tokens) then text_at 2 tokens else item_left_out false false tokens
