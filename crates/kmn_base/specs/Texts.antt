-- Texts in UTF-8 and their characters.
use Rattle.std.specs.Prelude.{ℕ, ◌==◌, ◌||◌, nat_le, nat_lt, if◌then◌else◌, List, [], ◌∷◌, chars, count_by, drop}
use Rattle.std.specs.List.{starts_with}
use Rattle.std.specs.Str.{is_utf8}

-- the number of characters of a text: of the bytes that begin a character
abbrev pub character_count : List ℕ → ℕ
character_count text = count_by (λ b. nat_lt b 128 || nat_le 192 b) text

-- the size in bytes of a byte order mark (U+FEFF) at the start of a text
abbrev pub bom_size : List ℕ → ℕ
bom_size bytes = if starts_with (λ a b. a == b) bytes (0xEF ∷ 0xBB ∷ 0xBF ∷ []) then 3 else 0

-- a text without a byte order mark at its start
abbrev pub without_bom : List ℕ → List ℕ
without_bom bytes = drop (bom_size bytes) bytes

-- the characters of a text in UTF-8, or none if the text is not UTF-8
abbrev pub decoded : List ℕ → List ℕ
decoded bytes = if is_utf8 bytes then chars bytes else []
