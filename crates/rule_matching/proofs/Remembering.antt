-- What is known about the places in stores after a cell of one store is written.
use Rattle.std.proofs.Common.{◌≡◌, ◌≢◌, ℕ, zero, suc, ◌<◌, ◌⊎◌, List, length, set, replicate, slice_get, true, false, eqb, ltb, cond, refl, sym, ap, ◌∙◌, inl, inr}
use Rattle.std.specs.Prelude.{Option, Some, None}
use Rattle.std.proofs.lemmas.Bool.{cases_Bool, eqb-true, eq-eqb}
use Rattle.kmn_base.specs.declared.limits.TheConstants.{STORE_ELEMENTS}
use Rattle.kmn_base.proofs.Elements.{slice_get-set_other, slice_get-set_same}
use Rattle.rule_matching.specs.declared.known_places.StorePlaces.{StorePlaces}
use Rattle.rule_matching.specs.KnownPlaces.{said, said_by, known_of, memorable, IsBlank}

-- each element of a list of equal elements is that element
pub each_is_the_one : {X : Type 0} (n k : ℕ) (x y : X) → slice_get (replicate n x) k ≡ Some y → x ≡ y
each_is_the_one zero k x y is = cc
each_is_the_one (suc n) zero x y is = cc
each_is_the_one (suc n) (suc k) x y is = each_is_the_one n k x y is

-- two numbers are equal or different
pub same_or_other : (a b : ℕ) → (a ≡ b) ⊎ (a ≢ b)
same_or_other a b = elim (cases_Bool (eqb a b)) [
  | inl same ↦ inl (eqb-true a b same)
  | inr other ↦ inr (λ (same : a ≡ b). let is : eqb a b ≡ true = eq-eqb a b same in cc)
]

-- if all cells are 0, nothing is known
pub zeros_say_nothing : (n distance : ℕ) → said_by (slice_get (replicate n 0) distance) ≡ None
zeros_say_nothing zero distance = refl
zeros_say_nothing (suc n) zero = refl
zeros_say_nothing (suc n) (suc distance) = zeros_say_nothing n distance

-- if a store is blank, nothing is known about it
pub blank_is_unknown : (choice : ℕ) (places : StorePlaces) → IsBlank places → (distance : ℕ) → known_of choice (Some places) distance ≡ None
blank_is_unknown choice places blank distance =
    elim (eqb places.asked choice) as (λ b. cond b (said_by (slice_get places.cells distance)) None ≡ None) [
      | true ↦ blank distance
      | false ↦ refl
    ]

-- if all stores are blank, nothing is known about any of them
pub blanks_are_unknown : (choice n : ℕ) (places : StorePlaces) → IsBlank places
    → (store distance : ℕ) → known_of choice (slice_get (replicate n places) store) distance ≡ None
blanks_are_unknown choice zero places blank store distance = refl
blanks_are_unknown choice (suc n) places blank zero distance = blank_is_unknown choice places blank distance
blanks_are_unknown choice (suc n) places blank (suc store) distance = blanks_are_unknown choice n places blank store distance

-- if a store was last written at another choice, nothing is known about it
pub other_choice_is_unknown : (choice : ℕ) (places : StorePlaces) → places.asked ≢ choice → (distance : ℕ) → known_of choice (Some places) distance ≡ None
other_choice_is_unknown choice places other distance = elim (cases_Bool (eqb places.asked choice)) [
  | inl same ↦ absurd (other (eqb-true places.asked choice same))
  | inr differs ↦ ap (λ b. cond b (said_by (slice_get places.cells distance)) None) differs
]

-- if a store was last written at this choice, a cell that is written is known
pub written_is_known : (choice distance cell : ℕ) (before after : StorePlaces) → before.asked ≡ choice → distance < length before.cells
    → after.asked ≡ before.asked → after.cells ≡ set before.cells distance cell → known_of choice (Some after) distance ≡ said cell
written_is_known choice distance cell before after now within asked cells =
    ap (λ b. cond b (said_by (slice_get after.cells distance)) None) (eq-eqb after.asked choice (asked ∙ now))
    ∙ ap said_by (ap (λ xs. slice_get xs distance) cells ∙ slice_get-set_same before.cells distance cell within)

-- if a cell is written, what is known about the other distances is unchanged
pub others_stay_known : (choice distance cell : ℕ) (before after : StorePlaces)
    → after.asked ≡ before.asked → after.cells ≡ set before.cells distance cell
    → (d : ℕ) → d ≢ distance → known_of choice (Some after) d ≡ known_of choice (Some before) d
others_stay_known choice distance cell before after asked cells d other =
    ap (λ n. cond (eqb n choice) (said_by (slice_get after.cells d)) None) asked
    ∙ ap (λ o. cond (eqb before.asked choice) (said_by o) None) (ap (λ xs. slice_get xs d) cells ∙ slice_get-set_other before.cells distance d cell other)

-- if a place can be remembered, what is remembered is that place
pub memorable_is_itself : (place known : Option ℕ) → memorable place ≡ Some known → known ≡ place
memorable_is_itself None known is = cc
memorable_is_itself (Some n) known is = elim (cases_Bool (ltb n STORE_ELEMENTS)) [
  | inl small ↦ let is_itself : Some (Some n) ≡ Some known = sym (ap (λ b. cond b (Some (Some n)) None) small) ∙ is in cc
  | inr large ↦ let is_none : None ≡ Some known = sym (ap (λ b. cond b (Some (Some n)) None) large) ∙ is in cc
]

-- if a cell of a store is written, each place that is known was known before or is the written place
pub only_this_is_new : (choice store distance : ℕ) (place : Option ℕ) (stores : List StorePlaces) (before after : StorePlaces)
    → store < length stores → slice_get stores store ≡ Some before
    → known_of choice (Some after) distance ≡ memorable place
    → ((d : ℕ) → d ≢ distance → known_of choice (Some after) d ≡ known_of choice (Some before) d)
    → (s d : ℕ) (p : Option ℕ) → known_of choice (slice_get (set stores store after) s) d ≡ Some p
    → (known_of choice (slice_get stores s) d ≡ Some p) ⊎ ((s ≡ store) × (d ≡ distance) × (p ≡ place))
only_this_is_new choice store distance place stores before after within was written others s d p known =
    elim (same_or_other s store) [
      | inr other ↦ inl (ap (λ o. known_of choice o d) (sym (slice_get-set_other stores store s after other)) ∙ known)
      | inl here ↦
          let there : slice_get (set stores store after) s ≡ Some after = ap (slice_get (set stores store after)) here ∙ slice_get-set_same stores store after within in
          let known_here : known_of choice (Some after) d ≡ Some p = sym (ap (λ o. known_of choice o d) there) ∙ known in
          let was_here : slice_get stores s ≡ Some before = ap (slice_get stores) here ∙ was in
          elim (same_or_other d distance) [
            | inr other ↦ inl (ap (λ o. known_of choice o d) was_here ∙ sym (others d other) ∙ known_here)
            | inl same ↦ inr (here, same, memorable_is_itself place p (sym (ap (known_of choice (Some after)) same ∙ written) ∙ known_here))
          ]
    ]

-- if a cell of a store is written, what is known about another store or distance is unchanged
pub others_stay_remembered : (choice store distance : ℕ) (stores : List StorePlaces) (before after : StorePlaces)
    → store < length stores → slice_get stores store ≡ Some before
    → ((d : ℕ) → d ≢ distance → known_of choice (Some after) d ≡ known_of choice (Some before) d)
    → (s d : ℕ) → (s ≢ store) ⊎ (d ≢ distance) → known_of choice (slice_get (set stores store after) s) d ≡ known_of choice (slice_get stores s) d
others_stay_remembered choice store distance stores before after within was others s d (inl other) =
    ap (λ o. known_of choice o d) (slice_get-set_other stores store s after other)
others_stay_remembered choice store distance stores before after within was others s d (inr other) =
    elim (same_or_other s store) [
      | inr elsewhere ↦ ap (λ o. known_of choice o d) (slice_get-set_other stores store s after elsewhere)
      | inl here ↦
          let there : slice_get (set stores store after) s ≡ Some after = ap (slice_get (set stores store after)) here ∙ slice_get-set_same stores store after within in
          let was_here : slice_get stores s ≡ Some before = ap (slice_get stores) here ∙ was in
          ap (λ o. known_of choice o d) there ∙ others d other ∙ sym (ap (λ o. known_of choice o d) was_here)
    ]

-- if a store is replaced, what is known about it is what the new value states
pub this_is_known : (choice store distance : ℕ) (stores : List StorePlaces) (after : StorePlaces) → store < length stores
    → known_of choice (slice_get (set stores store after) store) distance ≡ known_of choice (Some after) distance
this_is_known choice store distance stores after within = ap (λ o. known_of choice o distance) (slice_get-set_same stores store after within)
