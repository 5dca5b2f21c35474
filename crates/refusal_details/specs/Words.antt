-- The word of a line that is wrong.
use Rattle.std.specs.Prelude.{ℕ, nat_eq, nat_lt, ◌==◌, Bool, true, ◌||◌, if◌then◌else◌, List, [], ◌∷◌, length, codes, Result, Ok, Err}
use Rattle.kmn_base.specs.Names.{same_name}
use Rattle.kmn_base.specs.declared.codes.Code.{Code}
use Rattle.kmn_base.specs.declared.codes.Code.TheVariants.{S06}
use Rattle.kmn_base.specs.declared.refusals.Refusal.{Refusal}
use Rattle.kmn_lines.specs.Lines.{logicals}
use Rattle.kmn_lines.specs.declared.logical.Logical.{Logical}
use Rattle.kmn_lines.specs.declared.token.Token.{Token}
use Rattle.kmn_tokens.specs.Scanning.{scanned_line}
use Rattle.kmn_items.specs.TokenTexts.{LineToken, text_at, with_texts}
use Rattle.refusal_places.specs.Spots.{stop_place}
use Rattle.refusal_details.specs.declared.detail.Detail.{Detail}
use Rattle.refusal_details.specs.declared.detail.Detail.TheVariants as detail
use Rattle.refusal_details.specs.declared.words.WrongToken.{WrongToken}
use Rattle.refusal_details.specs.declared.words.WrongToken.TheVariants as wrong
use Rattle.refusal_details.specs.Faulty.{fault_text}
use Rattle.refusal_details.specs.LeftOut.{called, left_out, statement_left_out}

-- a word with the names that it may mean, or nothing for an empty word
unfoldable pub worded : List ℕ → List (List ℕ) → Detail
worded word near = if length word == 0 then detail.Nothing else detail.Word word near

-- whether the text of a token says no more than the code: it is the > before which something is missing, or the word of a statement that
-- has another form
unfoldable pub is_general : List ℕ → Bool
is_general text =
    same_name (codes ">") text || same_name (codes "begin") text || same_name (codes "group") text || same_name (codes "store") text

-- the text of a token, or no text if it says no more than the code
unfoldable pub kept_word : List ℕ → List ℕ
kept_word text = if is_general text then [] else text

-- whether the token at which reading a line stops is wrong: an output without items is refused at the first token of its line, which is not
unfoldable pub is_wrong : Code → ℕ → Bool
is_wrong S06 place = nat_lt 0 place
is_wrong other place = true

-- the text of the token at an index, or no text if it is not wrong or says no more than the code
abbrev pub wrong_text : Code → ℕ → List LineToken → List ℕ
wrong_text code place tokens = if is_wrong code place then kept_word (text_at place tokens) else []

-- the text of the token at which reading a line stops, among the tokens of the line
unfoldable pub stop_text : ℕ → Code → List LineToken → List ℕ
stop_text line code tokens = wrong_text code (stop_place line code tokens) tokens

-- the word of a line that only the language of Keyman Developer has, or the text of another token if it is empty
abbrev pub statement_or : List ℕ → List ℕ → List ℕ
statement_or word stop = if length word == 0 then stop else word

-- the word of a statement that only that language has, or the text of the token at which reading the line stops
unfoldable pub statement_text : ℕ → Code → List LineToken → List ℕ
statement_text line code tokens = statement_or (statement_left_out tokens) (stop_text line code tokens)

-- the text of the token that is wrong, among the tokens of a line
unfoldable pub tokens_text : ℕ → Code → WrongToken → List LineToken → List ℕ
tokens_text line code wrong.Stop tokens = stop_text line code tokens
tokens_text line code wrong.Statement tokens = statement_text line code tokens
tokens_text line code wrong.CallName tokens = called [] [] tokens
tokens_text line code wrong.LeftOut tokens = left_out tokens

-- the text of the token that is wrong in a line, for its tokens or their refusal, which is at the first token with a fault
abbrev pub scan_text : List ℕ → Logical → Code → WrongToken → Result (List Token) Refusal → List ℕ
scan_text source line code which (Ok tokens) = tokens_text line.first_line code which (with_texts source tokens)
scan_text source line code which (Err found) = fault_text source line

abbrev pub line_text : List ℕ → Logical → Code → WrongToken → List ℕ
line_text source line code which = scan_text source line code which (scanned_line source line)

-- the text of the token that is wrong in the one of these lines that has a number
abbrev pub text_among : List ℕ → ℕ → Code → WrongToken → List Logical → List ℕ
text_among source number code which [] = []
text_among source number code which (line ∷ lines) =
    if nat_eq line.first_line number then line_text source line code which else text_among source number code which lines

-- the text of the token that is wrong in the line of a source that has a number
unfoldable pub source_text : List ℕ → ℕ → Code → WrongToken → List ℕ
source_text source number code which = text_among source number code which (logicals source)
