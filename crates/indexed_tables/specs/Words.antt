-- The words of a text, taken one by one.
use Rattle.std.specs.Prelude.{ℕ, nat_eq, List, [], Option, Some, None}
use Rattle.std.specs.List.{slice_split}

-- the words of an optional text, which spaces separate; none if there is no text after the last word
abbrev pub words_after : Option (List ℕ) → List (List ℕ)
words_after None = []
words_after (Some text) = slice_split (nat_eq 32) text
