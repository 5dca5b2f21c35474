-- Where a refusal of bytes is that are not UTF-8.
use Rattle.std.specs.Prelude.{ℕ, ◌+◌, nat_eq, Bool, not, ◌&&◌, ◌||◌, if◌then◌else◌, List, [], ◌∷◌, take}
use Rattle.kmn_base.specs.declared.refusals.Refusal.{Refusal}
use Rattle.refusal_places.specs.Columns.{column_behind}
use Rattle.refusal_places.specs.declared.placed_refusal.Placed.{Placed}

-- whether a byte after another one ends a line: a CR, or an LF that is not after a CR
unfoldable pub ends_another : ℕ → ℕ → Bool
ends_another previous byte = nat_eq byte 13 || (nat_eq byte 10 && not (nat_eq previous 13))

-- the number of the line after a byte, given the number of the line before it and the byte before it
abbrev pub line_after : ℕ → ℕ → ℕ → ℕ
line_after line previous byte = if ends_another previous byte then line + 1 else line

-- the number of the line after bytes, given the number of the line before them and the byte before them
abbrev pub line_from : ℕ → ℕ → List ℕ → ℕ
line_from line previous [] = line
line_from line previous (byte ∷ bytes) = line_from (line_after line previous byte) byte bytes

-- the number of the line after a text; the first line is 1
abbrev pub line_behind : List ℕ → ℕ
line_behind text = line_from 1 0 text

-- a refusal at the byte after this many bytes of a source
abbrev pub behind_bytes : List ℕ → ℕ → Refusal → Placed
behind_bytes source size found =
    record { line = line_behind (take size source); column = column_behind (take size source); code = found.code }
