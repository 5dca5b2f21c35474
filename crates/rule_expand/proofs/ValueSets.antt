-- The set of values, and the values of a program in parts.
use Rattle.std.proofs.Common.{◌≡◌, ℕ, ◌+◌, ◌<◌, List, [], ◌∷◌, ◌++◌, length, drop, get_or, refl, sym, ap, ◌∙◌, if◌then◌else◌}
use Rattle.std.specs.Prelude.{flat_map}
use Rattle.std.specs.List.{list_any}
use Rattle.std.specs.Str.{bytes_eq}
use Rattle.std.proofs.lemmas.Grind.{flat_map-append}
use Rattle.std.proofs.lemmas.List.{drop_more}
use Rattle.rule_model.specs.declared.program.SrcItem.{SrcItem}
use Rattle.rule_model.specs.declared.program.RuleDef.{RuleDef}
use Rattle.rule_model.specs.declared.program.GroupDef.{GroupDef}
use Rattle.rule_model.specs.declared.program.Program.{Program}
use Rattle.rule_model.specs.Tab.{distinct_onto}
use Rattle.rule_model.specs.Naming.{rule_items, all_rules}
use Rattle.compile_laws.specs.Numbers.{item_values, values_of}
use Rattle.rule_expand.specs.Values.{with_values}

distinct_append : (seen xs ys : List (List ℕ)) → distinct_onto bytes_eq seen (xs ++ ys) ≡ distinct_onto bytes_eq (distinct_onto bytes_eq seen xs) ys
distinct_append seen [] ys = refl
distinct_append seen (x ∷ xs) ys = distinct_append (if list_any (λ y. bytes_eq y x) seen then seen else seen ++ x ∷ []) xs ys

pub values_append : (values : List (List ℕ)) (xs ys : List SrcItem) → with_values values (xs ++ ys) ≡ with_values (with_values values xs) ys
values_append values [] ys = refl
values_append values (x ∷ xs) ys = values_append (distinct_onto bytes_eq values (item_values x)) xs ys

-- one rule more
pub next_rule : (values : List (List ℕ)) (rules : List RuleDef) (i : ℕ) (rule : RuleDef) → i < length rules → rule ≡ get_or rules i rule
    → with_values values (flat_map rule_items (drop i rules)) ≡ with_values (with_values values (rule_items rule)) (flat_map rule_items (drop (i + 1) rules))
next_rule values rules i rule h e =
    ap (λ rs. with_values values (flat_map rule_items rs)) (drop_more rules i rule h ∙ ap (λ r. r ∷ drop (i + 1) rules) (sym e))
    ∙ values_append values (rule_items rule) (flat_map rule_items (drop (i + 1) rules))

abbrev rules_in : List GroupDef → List RuleDef
rules_in groups = flat_map (λ (group : GroupDef). group.rules) groups

items_apart : (xs ys : List RuleDef) → flat_map rule_items (xs ++ ys) ≡ flat_map rule_items xs ++ flat_map rule_items ys
items_apart xs ys = flat_map-append rule_items xs ys

-- one group more
pub next_group : (values : List (List ℕ)) (groups : List GroupDef) (i : ℕ) (group : GroupDef) → i < length groups → group ≡ get_or groups i group
    → with_values values (flat_map rule_items (flat_map (λ (g : GroupDef). g.rules) (drop i groups)))
    ≡ with_values (with_values values (flat_map rule_items group.rules)) (flat_map rule_items (flat_map (λ (g : GroupDef). g.rules) (drop (i + 1) groups)))
next_group values groups i group h e =
    ap (λ gs. with_values values (flat_map rule_items (rules_in gs))) (drop_more groups i group h ∙ ap (λ g. g ∷ drop (i + 1) groups) (sym e))
    ∙ ap (with_values values) (items_apart group.rules (rules_in (drop (i + 1) groups)))
    ∙ values_append values (flat_map rule_items group.rules) (flat_map rule_items (rules_in (drop (i + 1) groups)))

pub group_step : (old new target : List (List ℕ)) (groups : List GroupDef) (i : ℕ) (group : GroupDef) (rules : List RuleDef) → i < length groups → group ≡ get_or groups i group → rules ≡ group.rules
    → with_values old (flat_map rule_items (flat_map (λ (g : GroupDef). g.rules) (drop i groups))) ≡ target → new ≡ with_values old (flat_map rule_items rules)
    → with_values new (flat_map rule_items (flat_map (λ (g : GroupDef). g.rules) (drop (i + 1) groups))) ≡ target
group_step old new target groups i group rules h e same so_far added =
    ap (λ values. with_values values (flat_map rule_items (rules_in (drop (i + 1) groups)))) (added ∙ ap (λ rs. with_values old (flat_map rule_items rs)) same)
    ∙ (sym (next_group old groups i group h e) ∙ so_far)

all_values : (values : List (List ℕ)) (items : List SrcItem) → with_values values items ≡ distinct_onto bytes_eq values (flat_map item_values items)
all_values values [] = refl
all_values values (item ∷ items) =
    all_values (distinct_onto bytes_eq values (item_values item)) items ∙ sym (distinct_append values (item_values item) (flat_map item_values items))

-- the values of a program
pub values_of_program : (program : Program) → with_values [] (flat_map rule_items (flat_map (λ (g : GroupDef). g.rules) program.groups)) ≡ values_of program
unfolding values_of
values_of_program program = all_values [] (flat_map rule_items (all_rules program))
