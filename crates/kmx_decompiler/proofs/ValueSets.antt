-- Values that are added one by one if they are not among the values before.
use Rattle.std.proofs.Common.{◌≡◌, ℕ, List, [], ◌∷◌, ◌++◌, map, Vec, refl, ap, ◌∙◌}
use Rattle.std.specs.Prelude.{flat_map}
use Rattle.std.specs.Str.{bytes_eq}
use Rattle.indexmap.specs.IndexSet.{insert_key}
use Rattle.rule_model.specs.declared.tables.Rule.{Rule}
use Rattle.rule_model.specs.declared.tables.Group.{Group}
use Rattle.rule_model.specs.Tab.{distinct_onto}
use Rattle.store_table.proofs.TextSets.{inserted}
use Rattle.decompile_program.specs.Items.{Names, value_called}
use Rattle.decompile_program.specs.WrittenOut.{rule_values, group_values}
use Rattle.kmx_decompiler.specs.Values.{with_values}

module _ {A : Type 0} where
  -- inserting a key whose items are a value adds the value if it is new
  pub put_value : (keys now : List (Vec ℕ A)) (values : List (List ℕ)) (key : Vec ℕ A) (value : List ℕ) → map (λ key. key.items) keys ≡ values → key.items ≡ value
      → now ≡ insert_key (λ a b. bytes_eq a.items b.items) keys key → map (λ key. key.items) now ≡ distinct_onto bytes_eq values (value ∷ [])
  put_value keys now values key value are is put =
      ap (map (λ k. k.items)) put ∙ (inserted (λ (k : Vec ℕ A). k.items) keys key ∙ (λ j. distinct_onto bytes_eq (are j) (is j ∷ [])))

-- adding the values of stores and then of others is adding the values of the joined stores
pub with_values_append : (names : Names) (values : List (List ℕ)) (first second : List ℕ) → with_values names values (first ++ second) ≡ with_values names (with_values names values first) second
with_values_append names values [] second = refl
with_values_append names values (n ∷ ns) second = with_values_append names (distinct_onto bytes_eq values (value_called names n ∷ [])) ns second

-- the values of a record, then of the records after it, and the values of a group, then of the groups after it
pub with_rules : (names : Names) (values : List (List ℕ)) (rule : Rule) (rules : List Rule)
    → with_values names values (flat_map rule_values (rule ∷ rules)) ≡ with_values names (with_values names values (rule_values rule)) (flat_map rule_values rules)
with_rules names values rule rules = with_values_append names values (rule_values rule) (flat_map rule_values rules)

pub with_groups : (names : Names) (values : List (List ℕ)) (group : Group) (groups : List Group)
    → with_values names values (flat_map group_values (group ∷ groups)) ≡ with_values names (with_values names values (group_values group)) (flat_map group_values groups)
with_groups names values group groups = with_values_append names values (group_values group) (flat_map group_values groups)

-- the added values are the values of all stores, each once
pub all_values : (names : Names) (values : List (List ℕ)) (ns : List ℕ) → with_values names values ns ≡ distinct_onto bytes_eq values (map (value_called names) ns)
all_values names values [] = refl
all_values names values (n ∷ ns) = all_values names (distinct_onto bytes_eq values (value_called names n ∷ [])) ns
