-- The two system options, which come after the stores of a keyboard: their numbers, names and elements.
use Rattle.std.proofs.Common.{◌≡◌, ℕ, zero, suc, ◌+◌, ◌-◌, ◌<◌, Bool, true, false, List, [], ◌∷◌, ◌++◌, length, Option, Some, None, refl, sym, ap, ◌∙◌, arith}
use Rattle.std.proofs.lemmas.List.{length-append}
use Rattle.std.specs.Prelude.{map, if◌then◌else◌, nat_eq, slice_get, unwrap_or, option_map, position}
use Rattle.std.specs.Option.{option_flatten}
use Rattle.std.specs.List.{list_any}
use Rattle.kmn_base.specs.declared.items.Element.{Element}
use Rattle.rule_model.specs.declared.tables.Store.{Store}
use Rattle.rule_model.specs.Keyboard.{Ref, StoreMeaning, Layer, Platform}
use Rattle.rule_model.specs.Content.{options_before, elements_of_store, store_number, option_at, option_number, content_at, content}
use Rattle.rule_model.specs.System.{system_options, system_ref}
use Rattle.rule_model.specs.Event.{has_name}
use Rattle.rule_model.specs.Trace.{options_of}
use Rattle.rule_model.specs.Tab.{with_options, elements_of}
use Rattle.rule_model.specs.Plain.{option_numbers, option_names, option_named}
use Rattle.rule_model.proofs.PlainOptions.{number_found, length-option_numbers, length-with_options, content_of_option, position-passes, position-fails, same_number, first_named}

abbrev map_names : List StoreMeaning → List (List ℕ)
map_names stores = map (λ (store : StoreMeaning). store.name) stores

-- system options that come after the stores
module _ (name : List ℕ) where
  no_stores_named : (numbers : List (Option ℕ)) → option_named name numbers [] ≡ None
  no_stores_named [] = refl
  no_stores_named (n ∷ ns) = refl

  named_before : (k m : ℕ) (options : List ℕ) (stores : List Store) (more : List StoreMeaning)
      → option_named name (option_numbers k (with_options options m stores ++ more)) stores ≡ option_named name (option_numbers k (with_options options m stores)) stores
  named_before k m options [] more = no_stores_named (option_numbers k more)
  named_before k m options (s ∷ ss) more =
      let all = with_options options (m + 1) ss in
      elim (list_any (nat_eq m) options) as (λ b. option_named name (if b then Some k ∷ option_numbers (k + 1) (all ++ more) else None ∷ option_numbers k (all ++ more)) (s ∷ ss)
      ≡ option_named name (if b then Some k ∷ option_numbers (k + 1) all else None ∷ option_numbers k all) (s ∷ ss)) [
        | true ↦ ap (λ o. if has_name name s.name then Some k else o) (named_before (k + 1) (m + 1) options ss more)
        | false ↦ named_before k (m + 1) options ss more
      ]

-- the first position in a list, else in the list that follows it
abbrev pub either_place : Option ℕ → Option ℕ → Option ℕ
either_place None other = other
either_place (Some place) other = Some place

one_later : (n : ℕ) (found other : Option ℕ) → option_map (λ i. 1 + i) (either_place found (option_map (λ i. n + i) other)) ≡ either_place (option_map (λ i. 1 + i) found) (option_map (λ i. suc n + i) other)
one_later n (Some x) other = refl
one_later n None None = refl
one_later n None (Some x) = let q : 1 + (n + x) ≡ suc n + x = omega arith in ap Some q

position-behind : {X : Type 0} (p : X → Bool) (xs ys : List X) → position p (xs ++ ys) ≡ either_place (position p xs) (option_map (λ i. length xs + i) (position p ys))
position-behind p [] ys = sym (same_number (position p ys))
position-behind p (x ∷ xs) ys = by_test (position-behind p xs ys) (p x) refl
  where
    by_test : position p (xs ++ ys) ≡ either_place (position p xs) (option_map (λ i. length xs + i) (position p ys)) → (b : Bool) → p x ≡ b → position p (x ∷ (xs ++ ys)) ≡ either_place (position p (x ∷ xs)) (option_map (λ i. suc (length xs) + i) (position p ys))
    by_test behind true h =
        position-passes p x (xs ++ ys) h ∙ sym (ap (λ o. either_place o (option_map (λ i. suc (length xs) + i) (position p ys))) (position-passes p x xs h))
    by_test behind false h =
        position-fails p x (xs ++ ys) h
        ∙ (ap (option_map (λ i. 1 + i)) behind
        ∙ (one_later (length xs) (position p xs) (position p ys)
        ∙ sym (ap (λ o. either_place o (option_map (λ i. suc (length xs) + i) (position p ys))) (position-fails p x xs h))))

pub names_behind : (a b : List StoreMeaning) → option_names (a ++ b) ≡ option_names a ++ option_names b
names_behind [] b = refl
names_behind (s ∷ a) b =
    elim (s.is_option) as (λ o. map_names (if o then s ∷ options_of (a ++ b) else options_of (a ++ b)) ≡ map_names (if o then s ∷ options_of a else options_of a) ++ option_names b) [
      | true ↦ ap (λ rest. s.name ∷ rest) (names_behind a b)
      | false ↦ names_behind a b
    ]

numbers_behind : (k : ℕ) (a b : List StoreMeaning) → option_numbers k (a ++ b) ≡ option_numbers k a ++ option_numbers (k + length (option_names a)) b
numbers_behind k [] b = let q : k ≡ k + 0 = omega arith in ap (λ m. option_numbers m b) q
numbers_behind k (s ∷ a) b =
    elim (s.is_option) as (λ o. (if o then Some k ∷ option_numbers (k + 1) (a ++ b) else None ∷ option_numbers k (a ++ b))
    ≡ (if o then Some k ∷ option_numbers (k + 1) a else None ∷ option_numbers k a) ++ option_numbers (k + length (map_names (if o then s ∷ options_of a else options_of a))) b) [
      | true ↦ let q : k + 1 + length (option_names a) ≡ k + suc (length (option_names a)) = omega arith in
          ap (λ rest. Some k ∷ rest) (numbers_behind (k + 1) a b ∙ ap (λ m. option_numbers (k + 1) a ++ option_numbers m b) q)
      | false ↦ ap (λ rest. None ∷ rest) (numbers_behind k a b)
    ]

-- an item of a list that follows another list
pub at_behind : {X : Type 0} (xs ys : List X) (k : ℕ) → slice_get (xs ++ ys) (length xs + k) ≡ slice_get ys k
at_behind [] ys k = let q : 0 + k ≡ k = omega arith in ap (slice_get ys) q
at_behind (x ∷ xs) ys k =
    let e : suc (length xs) + k ≡ suc (length xs + k) = omega arith in
    ap (slice_get (x ∷ (xs ++ ys))) e ∙ at_behind xs ys k

-- the numbers of the system options follow those of the stores
pub system_numbered : (stores : List StoreMeaning) (k : ℕ) → option_flatten (slice_get (option_numbers 0 (stores ++ system_options)) (length stores + k)) ≡ option_flatten (slice_get (option_numbers (length (option_names stores)) system_options) k)
system_numbered stores k =
    let count : length stores + k ≡ length (option_numbers 0 stores) + k = ap (λ n. n + k) (sym (length-option_numbers 0 stores)) in
    let from : 0 + length (option_names stores) ≡ length (option_names stores) = omega arith in
    (λ i. option_flatten (slice_get (numbers_behind 0 stores system_options i) (count i)))
    ∙ (ap option_flatten (at_behind (option_numbers 0 stores) (option_numbers (0 + length (option_names stores)) system_options) k)
    ∙ ap (λ n. option_flatten (slice_get (option_numbers n system_options) k)) from)

-- the first option with a name is an option among the stores, else a system option
pub first_named_of_all : (name : List ℕ) (options : List ℕ) (stores : List Store)
    → position (has_name name) (option_names (with_options options 0 stores ++ system_options))
    ≡ either_place (option_named name (option_numbers 0 (with_options options 0 stores ++ system_options)) stores)
    (option_map (λ i. length (option_names (with_options options 0 stores)) + i) (position (has_name name) (option_names system_options)))
first_named_of_all name options stores =
    let own = with_options options 0 stores in
    ap (position (has_name name)) (names_behind own system_options)
    ∙ (position-behind (has_name name) (option_names own) (option_names system_options)
    ∙ ap (λ o. either_place o (option_map (λ i. length (option_names own) + i) (position (has_name name) (option_names system_options))))
    (sym (named_before name 0 0 options stores system_options ∙ first_named name options stores)))

pub length-all_stores : (options : List ℕ) (stores : List Store) → length (with_options options 0 stores ++ system_options) ≡ length stores + 2
length-all_stores options stores =
    length-append (with_options options 0 stores) system_options ∙ ap (λ n. n + 2) (length-with_options options 0 stores)

pub length-all_options : (options : List ℕ) (stores : List Store) → length (option_numbers 0 (with_options options 0 stores ++ system_options)) ≡ length stores + 2
length-all_options options stores =
    length-option_numbers 0 (with_options options 0 stores ++ system_options) ∙ length-all_stores options stores

-- the option numbers of the system options
pub layer_numbered : (stores : List StoreMeaning) → option_number (stores ++ system_options) Layer ≡ Some (length (option_names stores) + 0)
layer_numbered stores =
    let all = stores ++ system_options in
    let place : length all - 2 ≡ length stores + 0 = omega (arith, length-append stores system_options) in
    let first : length (option_names stores) ≡ length (option_names stores) + 0 = omega arith in
    sym (number_found all (length all - 2))
    ∙ (ap (λ n. option_flatten (slice_get (option_numbers 0 all) n)) place ∙ (system_numbered stores 0 ∙ ap Some first))

pub platform_numbered : (stores : List StoreMeaning) → option_number (stores ++ system_options) Platform ≡ Some (length (option_names stores) + 1)
platform_numbered stores =
    let all = stores ++ system_options in
    let place : length all - 1 ≡ length stores + 1 = omega (arith, length-append stores system_options) in
    sym (number_found all (length all - 1))
    ∙ (ap (λ n. option_flatten (slice_get (option_numbers 0 all) n)) place ∙ system_numbered stores 1)

-- the option number of the system option with an id
pub system_option_is : (stores : List StoreMeaning) (id : ℕ) → option_number (stores ++ system_options) (system_ref id) ≡ Some (length (option_names stores) + (if nat_eq id 31 then 1 else 0))
system_option_is stores id =
    elim (nat_eq id 31) as (λ b. option_number (stores ++ system_options) (if b then Platform else Layer) ≡ Some (length (option_names stores) + (if b then 1 else 0))) [
      | true ↦ platform_numbered stores
      | false ↦ layer_numbered stores
    ]

-- this is the last number or the one before it
pub system_at : (all : List StoreMeaning) (id place : ℕ) → place ≡ length (option_numbers 0 all) - (if nat_eq id 31 then 1 else 2) → option_flatten (slice_get (option_numbers 0 all) place) ≡ option_number all (system_ref id)
system_at all id place is =
    ap (λ n. option_flatten (slice_get (option_numbers 0 all) n)) (is ∙ ap (λ n. n - (if nat_eq id 31 then 1 else 2)) (length-option_numbers 0 all))
    ∙ elim (nat_eq id 31) as (λ b. option_flatten (slice_get (option_numbers 0 all) (length all - (if b then 1 else 2))) ≡ option_number all (if b then Platform else Layer)) [
      | true ↦ number_found all (length all - 1)
      | false ↦ number_found all (length all - 2)
    ]

-- the content of a store that is an option
pub content_by_option : (stores : List StoreMeaning) (values : List (List Element)) (ref : Ref) (o : ℕ) → option_number stores ref ≡ Some o → content stores values ref ≡ unwrap_or (slice_get values o) []
content_by_option stores values ref o is = by_number (store_number stores ref) is
  where
    by_number : (n : Option ℕ) → option_at stores n ≡ Some o → content_at stores values n ≡ unwrap_or (slice_get values o) []
    by_number None e = cc
    by_number (Some n) e = content_of_option values (options_before n stores) o (slice_get stores n) e

-- the first position in a list of two items
pub system_place : {X : Type 0} (p : X → Bool) (x y : X) → position p (x ∷ y ∷ []) ≡ (if p x then Some 0 else (if p y then Some 1 else None))
system_place p x y = by_test (p x) refl
  where
    one : (b : Bool) → p y ≡ b → option_map (λ i. 1 + i) (position p (y ∷ [])) ≡ (if b then Some 1 else None)
    one true h = ap (option_map (λ i. 1 + i)) (position-passes p y [] h)
    one false h = ap (option_map (λ i. 1 + i)) (position-fails p y [] h)

    by_test : (b : Bool) → p x ≡ b → position p (x ∷ y ∷ []) ≡ (if b then Some 0 else (if p y then Some 1 else None))
    by_test true h = position-passes p x (y ∷ []) h
    by_test false h = position-fails p x (y ∷ []) h ∙ one (p y) refl

-- a store keeps its elements if system options follow the stores
pub own_elements : (options : List ℕ) (k n : ℕ) (stores : List Store) → n < length stores
    → elements_of_store (slice_get (with_options options k stores ++ system_options) n) ≡ elements_of stores n
own_elements options k n [] below = absurd (omega arith)
own_elements options k zero (s ∷ ss) below = refl
own_elements options k (suc n) (s ∷ ss) below = own_elements options (k + 1) n ss (omega arith)

-- the elements of all stores, followed by the elements of the system options
pub all_elements : (options : List ℕ) (k : ℕ) (stores : List Store)
    → map (λ (s : StoreMeaning). s.elements) (with_options options k stores ++ system_options)
    ≡ map (λ (s : Store). s.elements) stores ++ map (λ (s : StoreMeaning). s.elements) system_options
all_elements options k [] = refl
all_elements options k (s ∷ ss) = ap (λ rest. s.elements ∷ rest) (all_elements options (k + 1) ss)
