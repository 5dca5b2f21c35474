-- The words of a refused line, which are taken for the names that it defines.
use Rattle.std.specs.Prelude.{ℕ, nat_eq, Bool, ◌||◌, if◌then◌else◌, List, [], ◌∷◌, ◌++◌, flat_map, is_some}
use Rattle.kmn_base.specs.Bytes.{is_blank, is_quote}
use Rattle.kmn_lines.specs.Lines.{parts_in}
use Rattle.kmn_lines.specs.Tokens.{single, part_text}
use Rattle.kmn_lines.specs.declared.logical.Logical.{Logical}

-- a byte that separates the words of a refused line
abbrev pub is_separator : ℕ → Bool
is_separator byte = is_blank byte || is_quote byte || is_some (single byte)

-- a word without a `$` or `&` at its start, if a byte is left
abbrev pub named : List ℕ → List ℕ
named [] = []
named (byte ∷ bytes) = if nat_eq byte 36 || nat_eq byte 38 then bytes else byte ∷ bytes

abbrev pub kept : List ℕ → List (List ℕ)
kept [] = []
kept (byte ∷ bytes) = (byte ∷ bytes) ∷ []

-- the words of a text, if some bytes before it belong to its first word
abbrev pub words_in : List ℕ → List ℕ → List (List ℕ)
words_in word [] = kept (named word)
words_in word (byte ∷ bytes) =
    if is_separator byte then kept (named word) ++ words_in [] bytes else words_in (word ++ byte ∷ []) bytes

-- the words of a logical line, also those in quotes
unfoldable pub words_of : List ℕ → Logical → List (List ℕ)
words_of source line = flat_map (λ p. words_in [] (part_text source p)) (parts_in source line)
