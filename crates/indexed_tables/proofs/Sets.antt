-- Whether a set of numbers contains an item, as elements do.
use Rattle.std.proofs.Common.{◌≡◌, ℕ, zero, suc, ◌+◌, ◌*◌, ◌<◌, false, List, [], ◌∷◌, ◌++◌, length, map, take, get_or, refl, sym, ap, subst, ◌∙◌, arith}
use Rattle.std.specs.Prelude.{◌||◌, nat_eq, is_some}
use Rattle.std.specs.List.{list_any}
use Rattle.std.proofs.Math.Bool.{or-false}
use Rattle.std.proofs.lemmas.Bool.Decides.{nat_tests}
use Rattle.std.proofs.lemmas.List.{map-append, take_more}
use Rattle.std.proofs.lemmas.List.Folds.{list_any_more}
use Rattle.indexmap.specs.IndexSet.{IndexSet}
use Rattle.kmn_base.specs.declared.items.Item.{Item}
use Rattle.kmn_base.specs.declared.items.Item.TheVariants as item
use Rattle.kmn_base.specs.declared.items.Element.{Element}
use Rattle.kmn_base.specs.declared.items.Element.TheVariants as element
use Rattle.virtual_keys.proofs.NamePlaces.{some_place}
use Rattle.virtual_keys.proofs.NumberSets.{inserted}
use Rattle.rule_model.specs.declared.tables.Store.{Store}
use Rattle.rule_model.specs.Match.{is_item, item_of, place_of}
use Rattle.rule_model.specs.Tab.{elements_of}
use Rattle.indexed_tables.specs.Numbers.{number_of, with_item, HasItems, AreSetsOf, set_at}

-- two items have the same number exactly where they are the same
char_char : (c d : ℕ) → nat_eq (2 * c) (2 * d) ≡ nat_eq c d
char_char c d = grind (arith, nat_tests)

char_mark : (c m : ℕ) → nat_eq (2 * c) (1 + 2 * m) ≡ false
char_mark c m = grind (arith, nat_tests)

mark_char : (m c : ℕ) → nat_eq (1 + 2 * m) (2 * c) ≡ false
mark_char m c = grind (arith, nat_tests)

mark_mark : (m n : ℕ) → nat_eq (1 + 2 * m) (1 + 2 * n) ≡ nat_eq m n
mark_mark m n = grind (arith, nat_tests)

-- a set with the item of another element
with_one : (set : List ℕ) (x : Item) (e : Element) → list_any (nat_eq (number_of x)) (with_item set (item_of e)) ≡ (list_any (nat_eq (number_of x)) set || is_item x e)
with_one set (item.Char c) (element.Char d) = inserted set (2 * d) (2 * c) ∙ ap (λ b. list_any (nat_eq (2 * c)) set || b) (char_char c d)
with_one set (item.Char c) (element.Mark m) = inserted set (1 + 2 * m) (2 * c) ∙ ap (λ b. list_any (nat_eq (2 * c)) set || b) (char_mark c m)
with_one set (item.Char c) (element.Key flags code) = sym (or-false (list_any (nat_eq (2 * c)) set))
with_one set (item.Mark m) (element.Char d) = inserted set (2 * d) (1 + 2 * m) ∙ ap (λ b. list_any (nat_eq (1 + 2 * m)) set || b) (mark_char m d)
with_one set (item.Mark m) (element.Mark n) = inserted set (1 + 2 * n) (1 + 2 * m) ∙ ap (λ b. list_any (nat_eq (1 + 2 * m)) set || b) (mark_mark m n)
with_one set (item.Mark m) (element.Key flags code) = sym (or-false (list_any (nat_eq (1 + 2 * m)) set))

-- a set with the items of another element
pub items_more : (set more : List ℕ) (elements : List Element) (i : ℕ) (d : Element) → i < length elements → HasItems set (take i elements)
    → more ≡ with_item set (item_of (get_or elements i d)) → HasItems more (take (i + 1) elements)
items_more set more elements i d within has is = λ x.
    ap (list_any (nat_eq (number_of x))) is
    ∙ (with_one set x (get_or elements i d)
    ∙ (ap (λ b. b || is_item x (get_or elements i d)) (has x ∙ some_place (is_item x) (take i elements))
    ∙ sym (some_place (is_item x) (take (i + 1) elements)
    ∙ list_any_more (is_item x) elements i d within)))

pushed : (stores : List Store) (sets : List (List ℕ)) (store : Store) (set : List ℕ) → AreSetsOf stores sets → HasItems set store.elements → AreSetsOf (stores ++ store ∷ []) (sets ++ set ∷ [])
pushed [] [] store set are has = (has, tt)
pushed [] (k ∷ sets) store set are has = elim are [ ]
pushed (s ∷ stores) [] store set are has = elim are [ ]
pushed (s ∷ stores) (k ∷ sets) store set are has = (are.0, pushed stores sets store set are.1 has)

-- the set of a store contains its items
found_in : (stores : List Store) (sets : List (List ℕ)) (store : ℕ) (x : Item) → AreSetsOf stores sets
    → list_any (nat_eq (number_of x)) (set_at sets store) ≡ is_some (place_of x (elements_of stores store))
found_in [] [] store x are = refl
found_in [] (set ∷ sets) store x are = elim are [ ]
found_in (s ∷ stores) [] store x are = elim are [ ]
found_in (s ∷ stores) (set ∷ sets) zero x are = are.0 x
found_in (s ∷ stores) (set ∷ sets) (suc store) x are = found_in stores sets store x are.1

-- the set of a store contains a number exactly where the store contains its item
pub number_found : (stores : List Store) (sets all : List (List ℕ)) (store number : ℕ) (x : Item) → all ≡ sets → number ≡ number_of x → AreSetsOf stores sets
    → list_any (nat_eq number) (set_at all store) ≡ is_some (place_of x (elements_of stores store))
number_found stores sets all store number x same is are = (λ j. list_any (nat_eq (is j)) (set_at (same j) store)) ∙ found_in stores sets store x are

module _ {S : Type 0} where
  -- the sets of the stores with another store
  pub sets_more : (sets more : List (IndexSet ℕ S)) (stores : List Store) (i : ℕ) (store : Store) (elements : List Element) (set : IndexSet ℕ S) → i < length stores
      → AreSetsOf (take i stores) (map (λ k. k.keys) sets) → store ≡ get_or stores i store → elements ≡ store.elements → HasItems set.keys elements → more ≡ sets ++ set ∷ []
      → AreSetsOf (take (i + 1) stores) (map (λ k. k.keys) more)
  sets_more sets more stores i store elements set within are here same has is =
      let first : take i stores ++ store ∷ [] ≡ take (i + 1) stores = ap (λ (s : Store). take i stores ++ s ∷ []) here ∙ sym (take_more stores i store within) in
      let all : map (λ (k : IndexSet ℕ S). k.keys) sets ++ set.keys ∷ [] ≡ map (λ (k : IndexSet ℕ S). k.keys) more =
      sym (ap (map (λ (k : IndexSet ℕ S). k.keys)) is ∙ map-append (λ (k : IndexSet ℕ S). k.keys) sets (set ∷ [])) in
      subst (AreSetsOf (take (i + 1) stores)) all
      (subst (λ (s : List Store). AreSetsOf s (map (λ (k : IndexSet ℕ S). k.keys) sets ++ set.keys ∷ [])) first
      (pushed (take i stores) (map (λ (k : IndexSet ℕ S). k.keys) sets) store set.keys are (subst (HasItems set.keys) same has)))
