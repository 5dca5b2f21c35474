-- A store is an option if and only if some part of the tables uses it as one.
use Rattle.std.proofs.Common.{◌≡◌, ℕ, Bool, true, false, ◌||◌, nat_eq, List, [], ◌∷◌, ◌++◌, refl, sym, ◌∙◌, ap, ap₂}
use Rattle.std.specs.List.{flat_map, list_any}
use Rattle.std.proofs.lemmas.List.Folds.{list_any-append}
use Rattle.rule_model.specs.Tab.{pattern_options, output_options, rule_options, group_options, tab_options}
use Rattle.rule_model.specs.declared.tables.Rule.{Rule}
use Rattle.rule_model.specs.declared.tables.Group.{Group}
use Rattle.rule_model.specs.declared.tables.Tables.{Tables}
use Rattle.kmx_verifier.specs.Options.{used_in, used_in_rule, used_in_group}

named_somewhere : {X : Type 0} (numbers : X → List ℕ) (number : ℕ) (xs : List X) → list_any (nat_eq number) (flat_map numbers xs) ≡ used_in numbers number xs
named_somewhere numbers number [] = refl
named_somewhere numbers number (x ∷ xs) =
    list_any-append (nat_eq number) (numbers x) (flat_map numbers xs) ∙ ap (λ b. list_any (nat_eq number) (numbers x) || b) (named_somewhere numbers number xs)

any_same : {X : Type 0} (p q : X → Bool) → ((x : X) → p x ≡ q x) → (xs : List X) → list_any (λ x. p x) xs ≡ list_any (λ x. q x) xs
any_same p q same [] = refl
any_same p q same (x ∷ xs) = ap₂ (λ a b. a || b) (same x) (any_same p q same xs)

or_assoc : (a b c : Bool) → (a || (b || c)) ≡ ((a || b) || c)
or_assoc true b c = refl
or_assoc false b c = refl

in_rule : (store : ℕ) (rule : Rule) → list_any (nat_eq store) (rule_options rule) ≡ used_in_rule store rule
in_rule store rule =
    list_any-append (nat_eq store) (flat_map pattern_options rule.context) (flat_map output_options rule.output)
    ∙ ap₂ (λ a b. a || b) (named_somewhere pattern_options store rule.context) (named_somewhere output_options store rule.output)

in_group : (store : ℕ) (group : Group) → list_any (nat_eq store) (group_options group) ≡ used_in_group store group
in_group store group =
    let rules : List ℕ = flat_map rule_options group.rules in
    let on_match : List ℕ = flat_map output_options group.on_match in
    let on_nomatch : List ℕ = flat_map output_options group.on_nomatch in
    list_any-append (nat_eq store) rules (on_match ++ on_nomatch)
    ∙ ap (λ b. list_any (nat_eq store) rules || b) (list_any-append (nat_eq store) on_match on_nomatch)
    ∙ or_assoc (list_any (nat_eq store) rules) (list_any (nat_eq store) on_match) (list_any (nat_eq store) on_nomatch)
    ∙ ap₂ (λ a b. a || b)
    (ap₂ (λ a b. a || b)
    (named_somewhere rule_options store group.rules ∙ any_same (λ rule. list_any (nat_eq store) (rule_options rule)) (used_in_rule store) (in_rule store) group.rules)
    (named_somewhere output_options store group.on_match))
    (named_somewhere output_options store group.on_nomatch)

pub options_used : (tables : Tables) (store : ℕ) → list_any (λ group. used_in_group store group) tables.groups ≡ list_any (nat_eq store) (tab_options tables)
unfolding tab_options
options_used tables store =
    sym (named_somewhere group_options store tables.groups ∙ any_same (λ group. list_any (nat_eq store) (group_options group)) (used_in_group store) (in_group store) tables.groups)
