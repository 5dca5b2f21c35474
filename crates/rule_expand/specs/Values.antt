-- The values of a program, item by item.
use Rattle.std.specs.Prelude.{ℕ, List, [], ◌∷◌}
use Rattle.std.specs.Str.{bytes_eq}
use Rattle.rule_model.specs.declared.program.SrcItem.{SrcItem}
use Rattle.rule_model.specs.Tab.{distinct_onto}
use Rattle.compile_laws.specs.Numbers.{item_values}

-- values with the values of further items, each appended if it is new
abbrev pub with_values : List (List ℕ) → List SrcItem → List (List ℕ)
with_values values [] = values
with_values values (item ∷ items) = with_values (distinct_onto bytes_eq values (item_values item)) items
