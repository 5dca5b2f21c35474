-- The tokens of a logical line, and the first fault among them.
use Rattle.std.specs.Prelude.{ℕ, ◌+◌, ◌-◌, ◌*◌, ◌==◌, nat_lt, nat_le, min, zero, suc, Bool, true, false, not, ◌&&◌, ◌||◌, if◌then◌else◌, List, [], ◌∷◌, ◌++◌, length, take, drop, Option, None, Some, is_some, unwrap_or, option_map}
use Rattle.std.specs.List.{list_all, list_any, starts_with}
use Rattle.std.specs.Option.{option_or}
use Rattle.kmn_base.specs.declared.codes.Code.{Code}
use Rattle.kmn_base.specs.declared.codes.Code.TheVariants.{L02, L03, L04}
use Rattle.kmn_base.specs.declared.refusals.Refusal.{Refusal}
use Rattle.kmn_base.specs.Bytes.{is_blank, is_quote, hex_digit}
use Rattle.kmn_base.specs.Spelling.{is_forbidden}
use Rattle.kmn_lines.specs.Bytes.{first_or_end}
use Rattle.kmn_lines.specs.Lines.{parts_in}
use Rattle.kmn_lines.specs.declared.logical.Logical.{Logical}
use Rattle.kmn_lines.specs.declared.logical.Part.{Part}
use Rattle.kmn_lines.specs.declared.token.Token.{Token}
use Rattle.kmn_lines.specs.declared.token.TokenKind.{TokenKind}
use Rattle.kmn_lines.specs.declared.token.TokenKind.TheVariants.{Quoted, Number, Word, Open, Close, BracketOpen, BracketClose, Arrow, Plus, Equal, Unequal, Comma}

-- the bytes that are tokens by themselves: ( ) [ ] > + = ,
abbrev pub single : ℕ → Option TokenKind
single byte =
    if byte == 40 then Some Open
    else if byte == 41 then Some Close
    else if byte == 91 then Some BracketOpen
    else if byte == 93 then Some BracketClose
    else if byte == 62 then Some Arrow
    else if byte == 43 then Some Plus
    else if byte == 61 then Some Equal
    else if byte == 44 then Some Comma
    else None

-- whether two bytes are !=, which is one token
abbrev pub is_unequal : ℕ → ℕ → Bool
is_unequal byte next = (byte == 33) && (next == 61)

-- whether a byte belongs to a word: it is not a blank, a quote, a token by itself, or a ! before =
unfoldable pub in_word : ℕ → ℕ → Bool
in_word byte next = not (is_blank byte || is_quote byte || is_some (single byte) || is_unequal byte next)

-- the number of bytes of a word at the beginning of a text
abbrev pub word_size : List ℕ → ℕ
word_size [] = 0
word_size (byte ∷ bytes) = if in_word byte (first_or_end bytes) then 1 + word_size bytes else 0

-- the number of bytes up to and including a quote; all bytes if there is no quote
abbrev pub quoted_size : ℕ → List ℕ → ℕ
quoted_size quote [] = 0
quoted_size quote (byte ∷ bytes) = if byte == quote then 1 else 1 + quoted_size quote bytes

-- whether a text begins with U+ and a hexadecimal digit, which begin a number
abbrev pub starts_number : List ℕ → Bool
starts_number (a ∷ b ∷ c ∷ bytes) = ((a == 85) || (a == 117)) && (b == 43) && is_some (hex_digit c)
starts_number bytes = false

-- the size of the token at the beginning of a text, if it is not a number; an unclosed quote extends to the end
abbrev pub plain_size : List ℕ → ℕ
plain_size text =
    let byte = first_or_end text in
    if is_quote byte then 1 + quoted_size byte (drop 1 text)
    else if is_unequal byte (first_or_end (drop 1 text)) then 2
    else if is_some (single byte) then 1
    else word_size text

-- the size of the token at the beginning of a text, which is not a blank
unfoldable pub token_size : List ℕ → ℕ
token_size text = if starts_number text then 2 + word_size (drop 2 text) else plain_size text

-- the number that hexadecimal digits denote, limited to a value past all characters
abbrev pub hex_value : ℕ → List ℕ → ℕ
hex_value n [] = n
hex_value n (byte ∷ bytes) = hex_value (min (n * 16 + unwrap_or (hex_digit byte) 0) 0x11_0000) bytes

-- the kind of a token that is not a number, by its first byte and the next
abbrev pub plain_kind : ℕ → ℕ → TokenKind
plain_kind byte next =
    if is_quote byte then Quoted
    else if is_unequal byte next then Unequal
    else unwrap_or (single byte) Word

-- the kind of a token with this text
unfoldable pub token_kind : List ℕ → TokenKind
token_kind text =
    if starts_number text then Number (hex_value 0 (drop 2 text))
    else plain_kind (first_or_end text) (first_or_end (drop 1 text))

-- whether a text begins with U+0000 or U+FFFF
unfoldable pub begins_forbidden : List ℕ → Bool
begins_forbidden bytes = (first_or_end bytes == 0) || starts_with (λ a b. a == b) bytes (0xEF ∷ 0xBF ∷ 0xBF ∷ [])

-- whether a text contains U+0000 or U+FFFF
abbrev pub has_forbidden : List ℕ → Bool
has_forbidden [] = false
has_forbidden (byte ∷ bytes) = begins_forbidden (byte ∷ bytes) || has_forbidden bytes

-- whether a text that begins with a quote contains this quote again
abbrev pub is_closed : List ℕ → Bool
is_closed [] = true
is_closed (byte ∷ bytes) = not (is_quote byte) || list_any (λ b. b == byte) bytes

-- whether each byte is a hexadecimal digit
abbrev pub all_digits : List ℕ → Bool
all_digits digits = list_all (λ digit. is_some (hex_digit digit)) digits

-- whether a number is a Unicode scalar value
abbrev pub is_scalar : ℕ → Bool
is_scalar n = nat_lt n 0xD800 || (nat_lt 0xDFFF n && nat_lt n 0x11_0000)

-- the fault of the number of 4 to 6 hexadecimal digits
abbrev pub value_fault : ℕ → Option Code
value_fault n = if is_forbidden n then Some L02 else if is_scalar n then None else Some L04

-- the fault of the digits after U+
abbrev pub digits_fault : List ℕ → Option Code
digits_fault digits =
    if nat_le 4 (length digits) && nat_le (length digits) 6 && all_digits digits
    then value_fault (hex_value 0 digits)
    else Some L04

-- the fault of a token with this text: a forbidden character, an unclosed quote, or a number that is not a character
unfoldable pub token_fault : List ℕ → Option Code
token_fault text =
    if has_forbidden text then Some L02
    else if not (is_closed text) then Some L03
    else if starts_number text then digits_fault (drop 2 text)
    else None

-- the text of the token at the start of a text
abbrev pub token_text : List ℕ → List ℕ
token_text bytes = take (token_size bytes) bytes

-- the token with a text at a position
abbrev pub token_at : ℕ → ℕ → List ℕ → Token
token_at line at text = record { kind = token_kind text; line = line; from = at; to = at + length text }

-- the tokens of a text from a position on, if its first bytes belong to the previous token
abbrev pub scanned : ℕ → ℕ → ℕ → List ℕ → List Token
scanned line n at [] = []
scanned line (suc n) at (byte ∷ bytes) = scanned line n (at + 1) bytes
scanned line zero at (byte ∷ bytes) =
    if is_blank byte then scanned line zero (at + 1) bytes
    else token_at line at (token_text (byte ∷ bytes)) ∷ scanned line (token_size (byte ∷ bytes) - 1) (at + 1) bytes

-- the first fault among the tokens of a text, if its first bytes belong to the previous token
abbrev pub first_fault : ℕ → List ℕ → Option Code
first_fault n [] = None
first_fault (suc n) (byte ∷ bytes) = first_fault n bytes
first_fault zero (byte ∷ bytes) =
    if is_blank byte then first_fault zero bytes
    else option_or (token_fault (token_text (byte ∷ bytes))) (first_fault (token_size (byte ∷ bytes) - 1) bytes)

-- the text of a part
abbrev pub part_text : List ℕ → Part → List ℕ
part_text source p = drop p.from (take p.to source)

-- the tokens of parts, one part after the other
abbrev pub parts_tokens : List ℕ → List Part → List Token
parts_tokens source [] = []
parts_tokens source (p ∷ ps) = scanned p.line 0 p.from (part_text source p) ++ parts_tokens source ps

-- the first fault in parts
abbrev pub parts_fault : List ℕ → List Part → Option Code
parts_fault source [] = None
parts_fault source (p ∷ ps) = option_or (first_fault 0 (part_text source p)) (parts_fault source ps)

-- the tokens of a logical line
unfoldable pub line_tokens : List ℕ → Logical → List Token
line_tokens source l = parts_tokens source (parts_in source l)

-- the refusal of a code at a line
abbrev pub refusal : ℕ → Code → Refusal
refusal line code = record { line = line; code = code }

-- the refusal of a logical line's tokens, with the number of its first physical line
unfoldable pub line_refusal : List ℕ → Logical → Option Refusal
line_refusal source l = option_map (refusal l.first_line) (parts_fault source (parts_in source l))

-- the first refusal among the tokens of logical lines
abbrev pub tokens_refusal : List ℕ → List Logical → Option Refusal
tokens_refusal source [] = None
tokens_refusal source (l ∷ ls) = option_or (line_refusal source l) (tokens_refusal source ls)
