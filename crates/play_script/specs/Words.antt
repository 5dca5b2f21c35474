-- The words of a line, and the numbers and names that words denote.
use Rattle.std.specs.Prelude.{◌≡◌, false, ℕ, Bool, ◌&&◌, nat_eq, nat_le, nat_lt, if◌then◌else◌, List, [], ◌∷◌, length, take, drop, filter, Option, Some, None}
use Rattle.std.specs.List.{position_or_len, slice_split}
use Rattle.std.specs.Str.{byte}
use Rattle.kmn_base.specs.Bytes.{is_blank}
use Rattle.kmn_base.specs.Digits.{are_digits, bounded_value}
use Rattle.kmn_base.specs.Texts.{character_count}
use Rattle.kmn_base.specs.declared.limits.TheConstants.{SOURCE_NAME_CHARS}

-- a text without its leading blanks
abbrev pub without_blanks : List ℕ → List ℕ
without_blanks [] = []
without_blanks (c ∷ text) = if is_blank c then without_blanks text else (c ∷ text)

-- a text does not begin with a blank
abbrev pub IsTight : List ℕ → Type 0
IsTight [] = Unit {0}
IsTight (c ∷ text) = is_blank c ≡ false

-- the word with which a text begins, which ends at a blank or at the end of the text
abbrev pub first_word : List ℕ → List ℕ
first_word text = take (position_or_len is_blank text) text

-- the text after the first word and the blanks that follow it
abbrev pub rest_after_word : List ℕ → List ℕ
rest_after_word text = without_blanks (drop (position_or_len is_blank text) text)

-- the words of a text, which are separated by blanks
abbrev pub words : List ℕ → List (List ℕ)
words text = filter (λ word. nat_lt 0 (length word)) (slice_split is_blank text)

-- whether a character closes a bracket
abbrev pub is_closing : ℕ → Bool
is_closing c = nat_eq c (byte "]")

-- whether a text begins with a bracket
abbrev pub begins_bracket : List ℕ → Bool
begins_bracket [] = false
begins_bracket (c ∷ text) = nat_eq c (byte "[")

-- whether a word consists of `least` to `most` digits of a base
abbrev pub has_digits : ℕ → ℕ → ℕ → List ℕ → Bool
has_digits base least most word = nat_le least (length word) && nat_le (length word) most && are_digits base word

-- the number that a word denotes: 1 to 7 decimal digits
abbrev pub number : List ℕ → Option ℕ
number word = if has_digits 10 1 7 word then Some (bounded_value 9999999 10 word) else None

-- the word if it can be a name: 1 to 80 characters, as a name of a source has
abbrev pub name : List ℕ → Option (List ℕ)
name word = if nat_le 1 (character_count word) && nat_le (character_count word) SOURCE_NAME_CHARS then Some word else None
