-- Each value of an item is one of the program's values.
use Rattle.std.proofs.Common.{◌≡◌, ℕ, Bool, true, false, ◌&&◌, ◌||◌, List, [], ◌∷◌, ◌++◌, refl, ap, sym, ◌∙◌, if◌then◌else◌}
use Rattle.std.specs.Prelude.{flat_map}
use Rattle.std.specs.List.{list_all, list_any}
use Rattle.std.specs.Str.{bytes_eq}
use Rattle.std.specs.Cmp.Lexicographic.{bytes_decides}
use Rattle.std.proofs.lemmas.Bool.{and_from, or_left, or_right}
use Rattle.std.proofs.lemmas.List.Folds.{list_all-append, list_any-append}
use Rattle.rule_model.specs.declared.program.Program.{Program}
use Rattle.rule_model.specs.declared.program.GroupDef.{GroupDef}
use Rattle.rule_model.specs.Naming.{rule_items, all_rules}
use Rattle.rule_model.specs.Tab.{distinct_onto}
use Rattle.compile_laws.specs.Numbers.{item_values, values_of}
use Rattle.compile_laws.proofs.Linked.{is_value}
use Rattle.compile_laws.proofs.Known.{has_values}
use Rattle.virtual_keys.proofs.NamePlaces.{some_place}

pub list_all-flat_map : {X Y : Type 0} (q : Y → Bool) (f : X → List Y) (xs : List X) → list_all q (flat_map f xs) ≡ list_all (λ x. list_all q (f x)) xs
list_all-flat_map q f [] = refl
list_all-flat_map q f (x ∷ xs) = list_all-append q (f x) (flat_map f xs) ∙ ap (λ b. list_all q (f x) && b) (list_all-flat_map q f xs)

-- seen elements are kept
kept : {X : Type 0} (same : X → X → Bool) (q : X → Bool) (seen xs : List X) → list_any q seen ≡ true → list_any q (distinct_onto same seen xs) ≡ true
kept same q seen [] h = h
kept same q seen (x ∷ xs) h = kept same q _ xs (go (list_any (λ y. same y x) seen))
  where
    go : (b : Bool) → list_any q (if b then seen else seen ++ x ∷ []) ≡ true
    go true = h
    go false = list_any-append q seen (x ∷ []) ∙ or_left (list_any q seen) (list_any q (x ∷ [])) h

-- if each item of a list is the same as itself, each is the same as one of the distinct items
among_distinct : {X : Type 0} (same : X → X → Bool) → ((x : X) → same x x ≡ true) → (seen xs : List X) → list_all (λ x. list_any (λ y. same y x) (distinct_onto same seen xs)) xs ≡ true
among_distinct same itself seen [] = refl
among_distinct same itself seen (x ∷ xs) = and_from _ _ (kept same (λ y. same y x) _ xs (go (list_any (λ y. same y x) seen) refl)) (among_distinct same itself _ xs)
  where
    go : (b : Bool) → list_any (λ y. same y x) seen ≡ b → list_any (λ y. same y x) (if b then seen else seen ++ x ∷ []) ≡ true
    go true e = e
    go false e = list_any-append (λ y. same y x) seen (x ∷ []) ∙ or_right (list_any (λ y. same y x) seen) (same x x || false) (or_left (same x x) false (itself x))

all_same : {X : Type 0} (p q : X → Bool) → ((x : X) → p x ≡ q x) → (xs : List X) → list_all p xs ≡ list_all q xs
all_same p q e [] = refl
all_same p q e (x ∷ xs) = λ i. e x i && all_same p q e xs i

bytes_same : (v : List ℕ) → bytes_eq v v ≡ true
bytes_same v = (bytes_decides v v).1 refl

all_values : (p : Program) → list_all (is_value p) (flat_map item_values (flat_map rule_items (all_rules p))) ≡ true
unfolding values_of
all_values p =
    all_same (is_value p) (λ v. list_any (λ known. bytes_eq known v) (values_of p)) (λ v. some_place (λ known. bytes_eq known v) (values_of p)) _
    ∙ among_distinct bytes_eq bytes_same [] (flat_map item_values (flat_map rule_items (all_rules p)))

-- the items of each rule of each group have the program's values
pub values_known : (p : Program) → list_all (λ (g : GroupDef). list_all (λ r. list_all (has_values p) (rule_items r)) g.rules) p.groups ≡ true
values_known p =
    sym (list_all-flat_map (λ r. list_all (has_values p) (rule_items r)) (λ (g : GroupDef). g.rules) p.groups)
    ∙ (sym (list_all-flat_map (has_values p) rule_items (all_rules p))
    ∙ (sym (list_all-flat_map (is_value p) item_values (flat_map rule_items (all_rules p)))
    ∙ all_values p))
