-- Names that a source reads without a change.
use Rattle.std.specs.Prelude.{ℕ, ◌==◌, nat_eq, Bool, not, ◌&&◌, ◌||◌, List, length, is_some}
use Rattle.std.specs.List.{list_all}
use Rattle.kmn_lines.specs.Tokens.{token_size, token_kind, token_fault}
use Rattle.kmn_items.specs.TokenTexts.{is_wordy}
use Rattle.kmn_items.specs.Words.{is_name}

-- whether a byte or a character does not end a line
abbrev pub is_inner : ℕ → Bool
is_inner c = not ((c == 10) || (c == 13))

-- whether a text is one token, a word or a number, and breaks no rule of tokens or names
abbrev pub is_source_name : List ℕ → Bool
is_source_name text =
    nat_eq (token_size text) (length text) && (is_wordy (token_kind text) && (not (is_some (token_fault text)) && (is_name text && list_all is_inner text)))
