-- The words of the lines of a source that are for other programs.
use Rattle.std.specs.Prelude.{ℕ, nat_lt, if◌then◌else◌, not, List, [], ◌∷◌, ◌++◌, length, flat_map}
use Rattle.std.specs.Str.{is_utf8}
use Rattle.kmn_base.specs.declared.limits.TheConstants.{TEXT_BYTES}
use Rattle.kmn_lines.specs.declared.logical.Logical.{Logical}
use Rattle.kmn_lines.specs.declared.line_state.PhysicalLine.{PhysicalLine}
use Rattle.kmn_lines.specs.Lines.{logicals, physical_lines_in, physical_text}
use Rattle.source_faults.specs.Words.{words_in, words_of}

-- the words of physical lines
abbrev pub physical_words : List ℕ → List PhysicalLine → List (List ℕ)
physical_words source lines = flat_map (λ (p : PhysicalLine). words_in [] (physical_text source p)) lines

-- the words of a logical line in which the reader finds no words: a line for another program, which is read as a blank line
abbrev pub words_if_none : List (List ℕ) → List (List ℕ) → List (List ℕ)
words_if_none [] words = words
words_if_none (own ∷ others) words = []

abbrev pub line_aside : List ℕ → Logical → List (List ℕ)
line_aside source line = words_if_none (words_of source line) (physical_words source (physical_lines_in source line))

-- the words of all such lines; a source that is too long or not in UTF-8 has none
unfoldable pub aside_words : List ℕ → List (List ℕ)
aside_words source =
    if nat_lt TEXT_BYTES (length source) then []
    else (if not (is_utf8 source) then [] else flat_map (line_aside source) (logicals source))
