-- The count over statements continues over further items and statements.
use Rattle.std.proofs.Common.{◌≡◌, ℕ, ◌+◌, ◌<◌, List, [], ◌∷◌, ◌++◌, length, map, drop, get_or, refl, sym, ap, ◌∙◌}
use Rattle.std.proofs.lemmas.List.{drop_more}
use Rattle.rule_model.specs.declared.program.SrcItem.{SrcItem}
use Rattle.rule_model.specs.declared.program.StoreDef.{StoreDef}
use Rattle.rule_model.specs.declared.program.RuleDef.{RuleDef}
use Rattle.rule_model.specs.Naming.{stores_before, stores_after}
use Rattle.rule_checker.specs.declared.counting.StoreCounts.{StoreCounts}
use Rattle.rule_checker.specs.declared.totals.Totals.{Totals}
use Rattle.rule_checker.specs.declared.walking.Walk.{Walk}
use Rattle.rule_checker.specs.Limits.{Statement, OfStore, OfRule, in_line_order}
use Rattle.rule_checker.specs.Walking.{with_names_of, with_names, with_value_of, with_values, walked, after_statement, after_store_walk, after_rule_walk}

pub names_append : (totals : Totals) (xs ys : List SrcItem) → with_names totals (xs ++ ys) ≡ with_names (with_names totals xs) ys
names_append totals [] ys = refl
names_append totals (x ∷ xs) ys = names_append (with_names_of totals x) xs ys

pub values_append : (totals : Totals) (xs ys : List SrcItem) → with_values totals (xs ++ ys) ≡ with_values (with_values totals xs) ys
values_append totals [] ys = refl
values_append totals (x ∷ xs) ys = values_append (with_value_of totals x) xs ys

walked_append : (counted : StoreCounts) (walk : Walk) (xs ys : List Statement) → walked counted walk (xs ++ ys) ≡ walked counted (walked counted walk xs) ys
walked_append counted walk [] ys = refl
walked_append counted walk (x ∷ xs) ys = walked_append counted (after_statement counted walk x) xs ys

-- a walk over stores is a walk over the first one and then over the others
pub walked_store : (counted : StoreCounts) (walk : Walk) (stores : List StoreDef) (i : ℕ) (store : StoreDef) → i < length stores → store ≡ get_or stores i store
    → walked counted walk (map OfStore (drop i stores)) ≡ walked counted (after_store_walk counted walk store) (map OfStore (drop (i + 1) stores))
walked_store counted walk stores i store h e =
    ap (λ (ss : List StoreDef). walked counted walk (map OfStore ss)) (drop_more stores i store h ∙ ap (λ (s : StoreDef). s ∷ drop (i + 1) stores) (sym e))

-- a walk over rules is a walk over the stores before the first one, over it, and then over the others
pub walked_rule : (counted : StoreCounts) (walk : Walk) (stores : List StoreDef) (rules : List RuleDef) (i : ℕ) (rule : RuleDef) (more : List RuleDef) → i < length rules → rule ≡ get_or rules i rule
    → walked counted walk (in_line_order stores (drop i rules ++ more))
    ≡ walked counted (after_rule_walk counted (walked counted walk (map OfStore (stores_before rule.line stores))) rule) (in_line_order (stores_after rule.line stores) (drop (i + 1) rules ++ more))
walked_rule counted walk stores rules i rule more h e =
    ap (λ (rs : List RuleDef). walked counted walk (in_line_order stores (rs ++ more))) (drop_more rules i rule h ∙ ap (λ (r : RuleDef). r ∷ drop (i + 1) rules) (sym e))
    ∙ walked_append counted walk (map OfStore (stores_before rule.line stores)) (OfRule rule ∷ in_line_order (stores_after rule.line stores) (drop (i + 1) rules ++ more))
