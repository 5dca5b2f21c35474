-- Names and words, which compare without ASCII case.
use Rattle.std.specs.Prelude.{ℕ, Bool, List, Option, option_map, find}
use Rattle.std.specs.Str.{str_eq_ignore_ascii_case}

-- whether two names are equal without ASCII case
unfoldable pub same_name : List ℕ → List ℕ → Bool
same_name = str_eq_ignore_ascii_case

-- the value of a table's first entry with a name, in any ASCII case
abbrev pub named_in : {A : Type 0} → List (List ℕ × A) → List ℕ → Option A
named_in table name = option_map (λ row. row.1) (find (λ row. same_name row.0 name) table)
