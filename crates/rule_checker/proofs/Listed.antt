-- The list of refusals for limits with those of further statements.
use Rattle.std.proofs.Common.{◌≡◌, ℕ, ◌+◌, ◌<◌, Bool, List, [], ◌∷◌, ◌++◌, length, map, drop, get_or, refl, ap, sym, ◌∙◌}
use Rattle.std.proofs.lemmas.List.{drop_more}
use Rattle.rule_model.specs.declared.program.StoreDef.{StoreDef}
use Rattle.rule_model.specs.declared.program.RuleDef.{RuleDef}
use Rattle.rule_model.specs.Naming.{stores_before, stores_after}
use Rattle.rule_checker.specs.declared.counting.StoreCounts.{StoreCounts}
use Rattle.rule_checker.specs.declared.listing.Listing.{Listing}
use Rattle.rule_checker.specs.Limits.{Statement, OfStore, OfRule, in_line_order}
use Rattle.rule_checker.specs.Listing.{listed, listed_statement, listed_store, listed_rule}

listed_append : (shared : Bool) (counted : StoreCounts) (listing : Listing) (xs ys : List Statement) → listed shared counted listing (xs ++ ys) ≡ listed shared counted (listed shared counted listing xs) ys
listed_append shared counted listing [] ys = refl
listed_append shared counted listing (x ∷ xs) ys = listed_append shared counted (listed_statement shared counted listing x) xs ys

-- the list of stores is that of the first one and then of the others
pub listed_next_store : (shared : Bool) (counted : StoreCounts) (listing : Listing) (stores : List StoreDef) (i : ℕ) (store : StoreDef) → i < length stores → store ≡ get_or stores i store
    → listed shared counted listing (map OfStore (drop i stores)) ≡ listed shared counted (listed_store shared counted listing store) (map OfStore (drop (i + 1) stores))
listed_next_store shared counted listing stores i store h e =
    ap (λ (ss : List StoreDef). listed shared counted listing (map OfStore ss)) (drop_more stores i store h ∙ ap (λ (s : StoreDef). s ∷ drop (i + 1) stores) (sym e))

-- the list of rules is that of the stores before the first one, of the first one, and then of the others
pub listed_next_rule : (shared : Bool) (counted : StoreCounts) (listing : Listing) (stores : List StoreDef) (rules : List RuleDef) (i : ℕ) (rule : RuleDef) (more : List RuleDef) → i < length rules → rule ≡ get_or rules i rule
    → listed shared counted listing (in_line_order stores (drop i rules ++ more))
    ≡ listed shared counted (listed_rule shared counted (listed shared counted listing (map OfStore (stores_before rule.line stores))) rule) (in_line_order (stores_after rule.line stores) (drop (i + 1) rules ++ more))
listed_next_rule shared counted listing stores rules i rule more h e =
    ap (λ (rs : List RuleDef). listed shared counted listing (in_line_order stores (rs ++ more))) (drop_more rules i rule h ∙ ap (λ (r : RuleDef). r ∷ drop (i + 1) rules) (sym e))
    ∙ listed_append shared counted listing (map OfStore (stores_before rule.line stores)) (OfRule rule ∷ in_line_order (stores_after rule.line stores) (drop (i + 1) rules ++ more))
