-- The strings of a script.
use Rattle.std.specs.Prelude.{ℕ, zero, suc, ◌+◌, ◌-◌, Bool, ◌&&◌, ◌||◌, nat_eq, nat_le, if◌then◌else◌, List, [], ◌∷◌, ◌++◌, length, take, option_map, option_and_then, position, Option, Some, None}
use Rattle.std.specs.List.{position_or_len}
use Rattle.std.specs.Str.{byte}
use lib.Utf8.{scalar}
use Rattle.kmn_base.specs.Bytes.{is_blank, is_quote}
use Rattle.kmn_base.specs.Digits.{bounded_value}
use Rattle.kmn_base.specs.Texts.{decoded}
use Rattle.kmn_base.specs.declared.limits.TheConstants.{SCRIPT_STRING_CHARS}
use Rattle.kmn_base.specs.declared.texts.TheConstants.{NO_CHARACTER}
use Rattle.play_script.specs.Words.{has_digits}

-- the character with a code point, if there is one
abbrev pub scalar_of : ℕ → Option ℕ
scalar_of c = if scalar c then Some c else None

-- the character that a text names as U+ and 4 to 6 hexadecimal digits
abbrev pub code_point : List ℕ → Option ℕ
code_point (u ∷ plus ∷ digits) =
    if nat_eq u (byte "U") && nat_eq plus (byte "+") && has_digits 16 4 6 digits then scalar_of (bounded_value NO_CHARACTER 16 digits) else None
code_point text = None

-- the characters and the size in bytes of a quoted token with its closing quote at `end`; its opening quote precedes `text`
abbrev pub quoted_token : List ℕ → Option ℕ → Option (List ℕ × ℕ)
quoted_token text None = None
quoted_token text (Some end) = Some (decoded (take end text), end + 2)

-- whether a byte ends an unquoted token: a blank, or a quote, which begins the next token
abbrev pub ends_token : ℕ → Bool
ends_token c = is_blank c || is_quote c

-- the bytes of the unquoted token with which a text begins
abbrev pub unquoted : List ℕ → List ℕ
unquoted text = take (position_or_len ends_token text) text

-- the characters and the size of an unquoted token, which names a character by its code point
abbrev pub written_token : List ℕ → Option (List ℕ × ℕ)
written_token written = option_map (λ c. (c ∷ [], length written)) (code_point written)

-- the token with which a text begins; the text does not begin with a blank
abbrev pub string_token : List ℕ → Option (List ℕ × ℕ)
string_token [] = None
string_token (c ∷ text) =
    if is_quote c then quoted_token text (position (λ b. nat_eq b c) text) else written_token (unquoted (c ∷ text))

-- the characters of the tokens of a text after its first `n` bytes; blanks may separate the tokens
abbrev pub tokens_chars : ℕ → List ℕ → Option (List ℕ)
tokens_chars n [] = Some []
tokens_chars (suc n) (c ∷ text) = tokens_chars n text
tokens_chars zero (c ∷ text) =
    if is_blank c then tokens_chars 0 text
    else option_and_then (λ (token : List ℕ × ℕ). option_map (λ more. token.0 ++ more) (tokens_chars (token.1 - 1) text)) (string_token (c ∷ text))

-- the characters, if they are not too many for a string
abbrev pub short : List ℕ → Option (List ℕ)
short text = if nat_le (length text) SCRIPT_STRING_CHARS then Some text else None

-- the string that a text without leading blanks denotes: one or more tokens
abbrev pub string : List ℕ → Option (List ℕ)
string [] = None
string (c ∷ text) = option_and_then short (tokens_chars 0 (c ∷ text))
