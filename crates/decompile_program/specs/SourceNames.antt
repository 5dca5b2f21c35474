-- Texts that are one word or number token.
use Rattle.std.specs.Prelude.{ℕ, Bool, not, ◌&&◌, nat_eq, if◌then◌else◌, List, length, drop, is_some}
use Rattle.std.specs.List.{list_all}
use Rattle.kmn_items.specs.Words.{is_name}
use Rattle.kmn_parser.specs.Names.{is_inner}
use Rattle.kmn_lines.specs.Tokens.{has_forbidden, word_size, starts_number, digits_fault}

-- whether a whole text is a word, or U+ followed by the digits of a character that a source may have
abbrev pub is_token : List ℕ → Bool
is_token text =
    if starts_number text
    then nat_eq (word_size (drop 2 text)) (length (drop 2 text)) && not (is_some (digits_fault (drop 2 text)))
    else nat_eq (word_size text) (length text)

-- whether a text is one token without U+0000 and U+FFFF, in one line, of 1 to 80 characters
unfoldable pub is_one_name : List ℕ → Bool
is_one_name text = is_token text && (not (has_forbidden text) && (is_name text && list_all is_inner text))
