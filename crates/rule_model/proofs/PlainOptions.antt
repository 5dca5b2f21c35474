-- The option numbers of stores, and the contents and names with these numbers.
use Rattle.std.proofs.Common.{◌≡◌, ℕ, zero, suc, ◌+◌, Bool, true, false, List, [], ◌∷◌, length, Option, Some, None, refl, sym, ap, ◌∙◌, arith}
use Rattle.std.proofs.lemmas.Bool.Decides.{nat_tests}
use Rattle.std.specs.Prelude.{if◌then◌else◌, nat_eq, slice_get, unwrap_or, option_map, position}
use Rattle.std.specs.Option.{option_flatten}
use Rattle.std.specs.List.{list_any}
use Rattle.kmn_base.specs.declared.items.Element.{Element}
use Rattle.rule_model.specs.declared.tables.Store.{Store}
use Rattle.rule_model.specs.Keyboard.{StoreMeaning}
use Rattle.rule_model.specs.Content.{options_before, option_of, content_of, elements_of_store}
use Rattle.rule_model.specs.Event.{has_name}
use Rattle.rule_model.specs.Tab.{with_options}
use Rattle.rule_model.specs.Plain.{option_numbers, option_names, option_named}

-- the entry of a store in the list of option numbers is its option number
number_from : (k n : ℕ) (stores : List StoreMeaning) → option_flatten (slice_get (option_numbers k stores) n) ≡ option_of (k + options_before n stores) (slice_get stores n)
number_from k n [] = refl
number_from k zero (s ∷ ss) =
    elim (s.is_option) as (λ b. option_flatten (slice_get (if b then Some k ∷ option_numbers (k + 1) ss else None ∷ option_numbers k ss) 0) ≡ (if b then Some (k + 0) else None)) [
      | true ↦ let q : k ≡ k + 0 = omega arith in ap Some q
      | false ↦ refl
    ]
number_from k (suc n) (s ∷ ss) =
    elim (s.is_option) as (λ b. option_flatten (slice_get (if b then Some k ∷ option_numbers (k + 1) ss else None ∷ option_numbers k ss) (suc n)) ≡ option_of (k + (if b then 1 + options_before n ss else options_before n ss)) (slice_get ss n)) [
      | true ↦ let q : k + 1 + options_before n ss ≡ k + (1 + options_before n ss) = omega arith in number_from (k + 1) n ss ∙ ap (λ o. option_of o (slice_get ss n)) q
      | false ↦ number_from k n ss
    ]

pub number_found : (stores : List StoreMeaning) (n : ℕ) → option_flatten (slice_get (option_numbers 0 stores) n) ≡ option_of (options_before n stores) (slice_get stores n)
number_found stores n = let q : 0 + options_before n stores ≡ options_before n stores = omega arith in number_from 0 n stores ∙ ap (λ o. option_of o (slice_get stores n)) q

pub length-option_numbers : (k : ℕ) (stores : List StoreMeaning) → length (option_numbers k stores) ≡ length stores
length-option_numbers k [] = refl
length-option_numbers k (s ∷ ss) =
    elim (s.is_option) as (λ b. length (if b then Some k ∷ option_numbers (k + 1) ss else None ∷ option_numbers k ss) ≡ suc (length ss)) [
      | true ↦ ap suc (length-option_numbers (k + 1) ss)
      | false ↦ ap suc (length-option_numbers k ss)
    ]

pub length-with_options : (options : List ℕ) (n : ℕ) (stores : List Store) → length (with_options options n stores) ≡ length stores
length-with_options options n [] = refl
length-with_options options n (s ∷ ss) = ap suc (length-with_options options (n + 1) ss)

-- the content of a store by its option number
pub content_of_option : (values : List (List Element)) (o p : ℕ) (store : Option StoreMeaning) → option_of o store ≡ Some p → content_of values o store ≡ unwrap_or (slice_get values p) []
content_of_option values o p None e = cc
content_of_option values o p (Some store) e =
    elim (store.is_option) as (λ b. (if b then Some o else None) ≡ Some p → (if b then unwrap_or (slice_get values o) [] else store.elements) ≡ unwrap_or (slice_get values p) []) [
      | true ↦ λ h. let q : o ≡ p = cc in ap (λ m. unwrap_or (slice_get values m) []) q
      | false ↦ λ h. cc
    ] e

pub content_of_other : (values : List (List Element)) (o : ℕ) (store : Option StoreMeaning) → option_of o store ≡ None → content_of values o store ≡ elements_of_store store
content_of_other values o None e = refl
content_of_other values o (Some store) e =
    elim (store.is_option) as (λ b. (if b then Some o else None) ≡ None → (if b then unwrap_or (slice_get values o) [] else store.elements) ≡ store.elements) [
      | true ↦ λ h. cc
      | false ↦ λ h. refl
    ] e

-- the first position in a list that begins with an item that passes, or with one that does not
pub position-passes : {X : Type 0} (p : X → Bool) (x : X) (xs : List X) → p x ≡ true → position p (x ∷ xs) ≡ Some 0
position-passes p x xs h = grind (arith, nat_tests)

pub position-fails : {X : Type 0} (p : X → Bool) (x : X) (xs : List X) → p x ≡ false → position p (x ∷ xs) ≡ option_map (λ i. 1 + i) (position p xs)
position-fails p x xs h = grind (arith, nat_tests)

shifted : (k : ℕ) (o : Option ℕ) → option_map (λ i. k + 1 + i) o ≡ option_map (λ i. k + i) (option_map (λ i. 1 + i) o)
shifted k None = refl
shifted k (Some x) = let q : k + 1 + x ≡ k + (1 + x) = omega arith in ap Some q

pub named_here : (p : List ℕ → Bool) (k : ℕ) (name : List ℕ) (names : List (List ℕ)) (passes : Bool) (rest : Option ℕ) → p name ≡ passes
    → rest ≡ option_map (λ i. k + 1 + i) (position p names) → (if passes then Some k else rest) ≡ option_map (λ i. k + i) (position p (name ∷ names))
named_here p k name names true rest here e =
    let q : k ≡ k + 0 = omega arith in ap Some q ∙ sym (ap (option_map (λ i. k + i)) (position-passes p name names here))
named_here p k name names false rest here e =
    e ∙ shifted k (position p names) ∙ sym (ap (option_map (λ i. k + i)) (position-fails p name names here))

named_from : (name : List ℕ) (k m : ℕ) (options : List ℕ) (stores : List Store)
    → option_named name (option_numbers k (with_options options m stores)) stores ≡ option_map (λ i. k + i) (position (has_name name) (option_names (with_options options m stores)))
named_from name k m options [] = refl
named_from name k m options (s ∷ ss) =
    let more = with_options options (m + 1) ss in
    elim (list_any (nat_eq m) options) as (λ b. option_named name (if b then Some k ∷ option_numbers (k + 1) more else None ∷ option_numbers k more) (s ∷ ss)
    ≡ option_map (λ i. k + i) (position (has_name name) (option_names (record { name = s.name; elements = s.elements; is_option = b; is_system = false } ∷ more)))) [
      | true ↦ named_here (has_name name) k s.name (option_names more) (has_name name s.name) _ refl (named_from name (k + 1) (m + 1) options ss)
      | false ↦ named_from name k (m + 1) options ss
    ]

pub same_number : (o : Option ℕ) → option_map (λ i. 0 + i) o ≡ o
same_number None = refl
same_number (Some x) = let q : 0 + x ≡ x = omega arith in ap Some q

-- the first store with a name and an option number is the first option with this name
pub first_named : (name : List ℕ) (options : List ℕ) (stores : List Store)
    → option_named name (option_numbers 0 (with_options options 0 stores)) stores ≡ position (has_name name) (option_names (with_options options 0 stores))
first_named name options stores = named_from name 0 0 options stores ∙ same_number (position (has_name name) (option_names (with_options options 0 stores)))
