-- How a script is split into lines.
use Rattle.std.specs.Prelude.{ℕ, ◌==◌, Bool, not, ◌&&◌, ◌||◌, if◌then◌else◌, List, [], ◌∷◌}
use Rattle.std.specs.List.{onto_first}

-- a byte with which a line end begins: LF or CR
abbrev pub is_end : ℕ → Bool
is_end b = (b == 10) || (b == 13)

-- whether a byte that precedes these bytes ends a line: an LF, or a CR that no LF follows
abbrev pub ends_line : ℕ → List ℕ → Bool
ends_line b [] = is_end b
ends_line b (next ∷ bytes) = (b == 10) || ((b == 13) && not (next == 10))

-- the lines of a text: LF, CR LF or a lone CR ends each line, and bytes after the last line end are a line too
abbrev pub text_lines : List ℕ → List (List ℕ)
text_lines [] = []
text_lines (b ∷ bytes) =
    if ends_line b bytes then [] ∷ text_lines bytes
    else if b == 13 then text_lines bytes
    else onto_first b (text_lines bytes)

-- the size in bytes of the line end with which a text begins
abbrev pub end_size : List ℕ → ℕ
end_size [] = 0
end_size (b ∷ []) = 1
end_size (b ∷ next ∷ bytes) = if (b == 13) && (next == 10) then 2 else 1
