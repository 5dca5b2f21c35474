-- The first byte of a text.
use Rattle.std.specs.Prelude.{ℕ, List, [], ◌∷◌}

-- the next byte; the end of the text counts as LF
abbrev pub first_or_end : List ℕ → ℕ
first_or_end [] = 10
first_or_end (byte ∷ bytes) = byte
