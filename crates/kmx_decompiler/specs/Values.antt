-- The values of a text, each once: the characters of the stores that items have as values.
use Rattle.std.specs.Prelude.{ℕ, List, [], ◌∷◌}
use Rattle.std.specs.Str.{bytes_eq}
use Rattle.rule_model.specs.Tab.{distinct_onto}
use Rattle.decompile_program.specs.Items.{Names, value_called}

-- values, followed by the characters of each of these stores that are not yet among the values
abbrev pub with_values : Names → List (List ℕ) → List ℕ → List (List ℕ)
with_values names values [] = values
with_values names values (n ∷ ns) = with_values names (distinct_onto bytes_eq values (value_called names n ∷ [])) ns
