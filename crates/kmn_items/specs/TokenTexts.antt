-- The tokens of a line with their texts, and what it means that code reads them correctly.
use Rattle.std.specs.Prelude.{ℕ, ◌-◌, Bool, true, false, ◌||◌, List, [], ◌∷◌, map, length, take, drop, slice_get, unwrap_or, Option, Some, None, option_map, Result}
use Rattle.kmn_base.specs.declared.codes.Code.{Code}
use Rattle.kmn_base.specs.Answers.{AnswersBy}
use Rattle.kmn_base.specs.Texts.{decoded}
use Rattle.kmn_lines.specs.declared.token.Token.{Token}
use Rattle.kmn_lines.specs.declared.token.TokenKind.{TokenKind}
use Rattle.kmn_lines.specs.declared.token.TokenKind.TheVariants as kind
use Rattle.kmn_items.specs.declared.text.LineTokens.{LineTokens}
use Rattle.kmn_items.specs.declared.syntax.TokenRefusal.{TokenRefusal}
use Rattle.kmn_items.specs.declared.syntax.LineError.{LineError}
use Rattle.kmn_items.specs.declared.syntax.LineError.TheVariants as error

-- a token with its text
pub record LineToken : Type 0 where
  pub kind : TokenKind
  pub text : List ℕ

-- the text of a token: the source from `from` to `to`
abbrev pub text_of : List ℕ → Token → List ℕ
text_of source token = drop token.from (take token.to source)

abbrev pub with_text : List ℕ → Token → LineToken
with_text source token = record { kind = token.kind; text = text_of source token }

-- the tokens of a line with their texts
abbrev pub with_texts : List ℕ → List Token → List LineToken
with_texts source tokens = map (with_text source) tokens

-- consecutive tokens of a line with their texts
abbrev pub texts : LineTokens → List LineToken
texts tokens = with_texts tokens.source.now tokens.tokens.now

-- the kinds of tokens that forms require
abbrev pub is_quoted : TokenKind → Bool
is_quoted kind.Quoted = true
is_quoted other = false

abbrev pub is_word : TokenKind → Bool
is_word kind.Word = true
is_word other = false

abbrev pub is_number : TokenKind → Bool
is_number (kind.Number c) = true
is_number other = false

abbrev pub is_open : TokenKind → Bool
is_open kind.Open = true
is_open other = false

abbrev pub is_close : TokenKind → Bool
is_close kind.Close = true
is_close other = false

abbrev pub is_bracket_close : TokenKind → Bool
is_bracket_close kind.BracketClose = true
is_bracket_close other = false

abbrev pub is_comma : TokenKind → Bool
is_comma kind.Comma = true
is_comma other = false

abbrev pub is_equal : TokenKind → Bool
is_equal kind.Equal = true
is_equal other = false

abbrev pub is_unequal : TokenKind → Bool
is_unequal kind.Unequal = true
is_unequal other = false

-- whether a token is a word, or a number, whose text is a word
abbrev pub is_wordy : TokenKind → Bool
is_wordy kind = is_word kind || is_number kind

-- the text of the token at an index; empty if there is none
abbrev pub text_at : ℕ → List LineToken → List ℕ
text_at place tokens = unwrap_or (option_map (λ (token : LineToken). token.text) (slice_get tokens place)) []

-- whether a parenthesis opens at the first token
abbrev pub begins_open : List LineToken → Bool
begins_open [] = false
begins_open (token ∷ tokens) = is_open token.kind

-- the text between the quotes of a quoted token
abbrev pub inside : List ℕ → List ℕ
inside text = take (length text - 2) (drop 1 text)

-- the characters of a quoted token
abbrev pub quoted : List ℕ → List ℕ
quoted text = decoded (inside text)

-- the refusal of a rule that is broken at a token
abbrev pub fault : ℕ → Code → TokenRefusal
fault at code = record { at = at; code = code }

-- the refusal of an error; `Memory` has none
abbrev pub fault_of : LineError → Option TokenRefusal
fault_of (error.Refused fault) = Some fault
fault_of error.Memory = None

-- the result of code for a reading: exactly its value or its first fault, or `Memory` at any time
abbrev pub Reads : {A : Type 0} → Result A TokenRefusal → Result A LineError → Type 0
Reads read answer = AnswersBy fault_of read answer
