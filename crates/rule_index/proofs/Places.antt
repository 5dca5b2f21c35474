-- The first number of an item is its first place.
use Rattle.std.proofs.Common.{◌≡◌, ◌<◌, ◌+◌, ℕ, List, [], ◌∷◌, map, eqb, ltb, cond, false, length, slice_index_or, refl, sym, ◌∙◌, ap, inl, inr, arith}
use Rattle.std.specs.Prelude.{position, Option, Some, None, not}
use Rattle.std.specs.List.{position_or_len}
use Rattle.std.proofs.lemmas.Bool.{cases_Bool, eqb-true, eq-eqb, cond-true, cond-false, lt-ltb}
use Rattle.std.proofs.lemmas.Bool.Decides.{nat_tests}
use Rattle.std.proofs.lemmas.List.{length-map}
use Rattle.std.proofs.lemmas.List.Sums.{position_or_len_is}
use Rattle.std.proofs.lemmas.List.Quantifiers.{position-Some}
use Rattle.kmn_base.specs.declared.items.Item.{Item}
use Rattle.kmn_base.specs.declared.items.Item.TheVariants as item
use Rattle.kmn_base.specs.declared.items.Element.{Element}
use Rattle.kmn_base.specs.declared.items.Element.TheVariants as element
use Rattle.rule_model.specs.Match.{is_item, place_of}
use Rattle.rule_index.specs.Elements.{element_number, item_number}
use Rattle.rule_index.proofs.Firsts.{IsFirstOf, NoneOf, FirstOf}

same_number : (x : Item) (e : Element) → is_item x e ≡ eqb (element_number e) (item_number x)
same_number (item.Char c) (element.Char d) = grind (arith, nat_tests)
same_number (item.Char c) (element.Mark m) = grind (arith, nat_tests)
same_number (item.Char c) (element.Key f v) = grind (arith, nat_tests)
same_number (item.Mark m) (element.Char d) = grind (arith, nat_tests)
same_number (item.Mark m) (element.Mark n) = grind (arith, nat_tests)
same_number (item.Mark m) (element.Key f v) = grind (arith, nat_tests)

same_first : (x : Item) (elements : List Element)
    → position_or_len (is_item x) elements ≡ position_or_len (λ number. eqb number (item_number x)) (map element_number elements)
same_first x [] = refl
same_first x (e ∷ elements) =
    let here = same_number x e in
    let rest = same_first x elements in
    λ i. cond (not (here i)) (1 + rest i) 0

place_by_number : (x : Item) (elements : List Element)
    → place_of x elements ≡ position (λ number. eqb number (item_number x)) (map element_number elements)
place_by_number x elements =
    let first = same_first x elements in
    let count : length (map element_number elements) ≡ length elements = length-map elements element_number in
    λ i. cond (ltb (first i) (sym count i)) (Some (first i)) None

position_of : (class : ℕ) (classes : List ℕ) (o : Option ℕ) → IsFirstOf class classes 0 o → o ≡ position (λ other. eqb other class) classes
position_of class classes None (NoneOf none) =
    sym (ap (λ (n : ℕ). cond (ltb n (length classes)) (Some n) None) all ∙ cond-false (ltb (length classes) (length classes)) (Some (length classes)) None (grind (arith, nat_tests)))
  where
    fails : (n : ℕ) → n < length classes → eqb (slice_index_or classes n 0) class ≡ false
    fails n less = elim (cases_Bool (eqb (slice_index_or classes n 0) class)) [
      | inr other ↦ other
      | inl held ↦ absurd (none n (omega arith) less (eqb-true (slice_index_or classes n 0) class held))
    ]

    all : position_or_len (λ other. eqb other class) classes ≡ length classes
    all = position_or_len_is (λ other. eqb other class) classes (length classes) 0 (omega arith) fails (λ h. absurd (omega arith))
position_of class classes (Some m) (FirstOf p behind within met skipped) =
    sym (ap (λ (n : ℕ). cond (ltb n (length classes)) (Some n) None) first ∙ cond-true (ltb m (length classes)) (Some m) None (lt-ltb m (length classes) within))
  where
    fails : (n : ℕ) → n < m → eqb (slice_index_or classes n 0) class ≡ false
    fails n less = elim (cases_Bool (eqb (slice_index_or classes n 0) class)) [
      | inr other ↦ other
      | inl held ↦ absurd (skipped n (omega arith) less (eqb-true (slice_index_or classes n 0) class held))
    ]

    first : position_or_len (λ other. eqb other class) classes ≡ m
    first = position_or_len_is (λ other. eqb other class) classes m 0 (omega (arith, within)) fails (λ h. eq-eqb (slice_index_or classes m 0) class met)

-- the first number of an item among those of the elements is the item's first place
pub first_is_place : (x : Item) (elements : List Element) (o : Option ℕ) → IsFirstOf (item_number x) (map element_number elements) 0 o → o ≡ place_of x elements
first_is_place x elements o first = position_of (item_number x) (map element_number elements) o first ∙ sym (place_by_number x elements)

-- the element at an item's first place has the number of the item
pub place_has_number : (x : Item) (elements : List Element) (place : ℕ) → place_of x elements ≡ Some place
    → (place < length (map element_number elements)) × (slice_index_or (map element_number elements) place 0 ≡ item_number x)
place_has_number x elements place is =
    let numbers : List ℕ = map element_number elements in
    let at = position-Some (λ number. eqb number (item_number x)) numbers place 0 (sym (place_by_number x elements) ∙ is) in
    (at.0, eqb-true (slice_index_or numbers place 0) (item_number x) at.1)
