-- The first refusal is the first among all refusals.
use Rattle.std.proofs.Common.{◌≡◌, List, [], ◌∷◌, ◌++◌, Option, Some, None, refl, sym, ap, ◌∙◌, flat_map, option_to_list}
use Rattle.kmn_base.specs.declared.refusals.Refusal.{Refusal}
use Rattle.rule_model.specs.declared.program.RuleDef.{RuleDef}
use Rattle.rule_model.specs.declared.program.GroupDef.{GroupDef}
use Rattle.rule_model.specs.declared.program.Program.{Program}
use Rattle.store_table.specs.First.{earlier, first_of, all_of, first_among}
use Rattle.store_table.specs.Names.{names_refusal, names_refusals, rule_refusal, stated, begin_refusal, store_refusal, group_refusal, rules_refusals}
use Rattle.store_table.proofs.Firsts.{earlier_later}

-- the first among refusals and others
pub first_append : (xs ys : List Refusal) → first_among (xs ++ ys) ≡ earlier (first_among xs) (first_among ys)
first_append [] ys = refl
first_append (x ∷ xs) ys = ap (earlier (Some x)) (first_append xs ys) ∙ sym (earlier_later (Some x) (first_among xs) (first_among ys))

first_put : (found : Option Refusal) (more : List Refusal) → first_among (option_to_list found ++ more) ≡ earlier found (first_among more)
first_put None more = refl
first_put (Some r) more = refl

-- the first refusal of statements is the first among all of theirs
pub first_is_least : {X : Type 0} (f : List X → X → Option Refusal) (before xs : List X) → first_of f before xs ≡ first_among (all_of f before xs)
first_is_least f before [] = refl
first_is_least f before (x ∷ xs) =
    ap (earlier (f before x)) (first_is_least f (before ++ x ∷ []) xs)
    ∙ sym (first_put (f before x) (all_of f (before ++ x ∷ []) xs))

-- the same for the statements of all groups
pub groups_least : (f : List RuleDef → RuleDef → Option Refusal) (before groups : List GroupDef)
    → first_of (λ (others : List GroupDef) (group : GroupDef). first_of f [] group.rules) before groups ≡ first_among (flat_map (λ (group : GroupDef). all_of f [] group.rules) groups)
groups_least f before [] = refl
groups_least f before (g ∷ gs) =
    ap (λ r. earlier r (first_of (λ (others : List GroupDef) (group : GroupDef). first_of f [] group.rules) (before ++ g ∷ []) gs)) (first_is_least f [] g.rules)
    ∙ ap (earlier (first_among (all_of f [] g.rules))) (groups_least f (before ++ g ∷ []) gs)
    ∙ sym (first_append (all_of f [] g.rules) (flat_map (λ (group : GroupDef). all_of f [] group.rules) gs))

-- the first among two lists, each with its first refusal
pub first_of_both : (a b : Option Refusal) (xs ys : List Refusal) → a ≡ first_among xs → b ≡ first_among ys → earlier a b ≡ first_among (xs ++ ys)
first_of_both a b xs ys p q = ap (λ x. earlier x b) p ∙ ap (earlier (first_among xs)) q ∙ sym (first_append xs ys)

-- the first refusal for names is the first among all
pub names_least : (program : Program) → names_refusal program ≡ first_among (names_refusals program)
unfolding names_refusal names_refusals
names_least program =
    first_of_both _ _ (all_of (begin_refusal (stated program)) [] program.begins) _ (first_is_least (begin_refusal (stated program)) [] program.begins)
    (first_of_both _ _ (all_of (store_refusal (stated program)) [] program.stores) _ (first_is_least (store_refusal (stated program)) [] program.stores)
    (first_of_both _ _ (all_of group_refusal [] program.groups) (flat_map (rules_refusals (stated program)) program.groups) (first_is_least group_refusal [] program.groups) (groups_least (rule_refusal (stated program)) [] program.groups)))
