-- Names and values are found at the numbers that they have.
use Rattle.std.proofs.Common.{◌≡◌, ℕ, suc, ◌+◌, ◌^◌, ◌<◌, ◌≤◌, Bool, true, false, cond, List, [], ◌∷◌, ◌++◌, append-nil, length, Option, Some, None, refl, sym, ap, ◌∙◌, arith, nat_lt, if◌then◌else◌}
use Rattle.std.specs.Prelude.{position, option_map, unwrap_or, find}
use Rattle.std.specs.Str.{bytes_eq}
use Rattle.std.proofs.lemmas.Bool.Decides.{nat_tests}
use Rattle.kmn_base.specs.Names.{same_name}
use Rattle.virtual_keys.specs.Dictionary.{place_in}
use Rattle.rule_model.specs.declared.tables.Store.{Store}
use Rattle.rule_model.specs.Naming.{mark_number, elements_named}
use Rattle.rule_model.specs.Tab.{store_elements}
use Rattle.store_table.specs.Numbering.{NameLists, below, number_in, mark_in}
use Rattle.virtual_keys.proofs.NamePlaces.{same_either_way}
use Rattle.compile_laws.proofs.PlacedItems.{first_place}
use Rattle.virtual_keys.proofs.NamePlaces.{position_cons}
use Rattle.virtual_keys.proofs.PositionLemmas.{position-map}
use Rattle.rule_expand.specs.Lookups.{source_names, AreFew, store_names, BeginWith, place_of_store, elements_at}

below_limit : (limit k : ℕ) → k < limit → (if nat_lt k limit then Some k else None) ≡ Some k
below_limit limit k h = grind (arith, nat_tests)

-- a place in a list that isn't longer than a limit is below the limit
place_below_as : {X : Type 0} (limit : ℕ) (p : X → Bool) (xs : List X) (place : Option ℕ) → length xs ≤ limit → position p xs ≡ place → below limit place ≡ place
place_below_as limit p xs None few e = refl
place_below_as limit p xs (Some k) few e =
    let within : k < length xs = (first_place p xs k e).within in
    let h : k < limit = omega arith in
    below_limit limit k h

place_below : {X : Type 0} (limit : ℕ) (p : X → Bool) (xs : List X) → length xs ≤ limit → below limit (position p xs) ≡ position p xs
place_below limit p xs few = place_below_as limit p xs (position p xs) few refl

place_either_way : (names : List (List ℕ)) (name : List ℕ) → place_in names name ≡ position (λ known. same_name known name) names
place_either_way names name = λ j. position (λ known. same_either_way name known j) names

marked : (marks : List (List ℕ)) (name : List ℕ) (place : Option ℕ) → length marks < 2 ^ 16 → position (λ known. same_name known name) marks ≡ place
    → unwrap_or (below (2 ^ 16) (option_map (λ at. 1 + at) place)) 1 ≡ 1 + unwrap_or place 0
marked marks name None few e = refl
marked marks name (Some k) few e =
    let within : k < length marks = (first_place (λ known. same_name known name) marks k e).within in
    let h : 1 + k < 2 ^ 16 = omega arith in
    ap (λ o. unwrap_or o 1) (below_limit (2 ^ 16) (1 + k) h)

-- the number of a mark
pub mark_found : (lists : NameLists) (name : List ℕ) → AreFew lists → unwrap_or (mark_in lists.marks name) 1 ≡ mark_number (source_names lists) name
mark_found lists name few =
    ap (λ place. unwrap_or (below (2 ^ 16) (option_map (λ at. 1 + at) place)) 1) (place_either_way lists.marks name)
    ∙ marked lists.marks name (position (λ known. same_name known name) lists.marks) few.marks refl

-- the number of a group
pub group_found : (lists : NameLists) (name : List ℕ) → AreFew lists → number_in lists.groups name ≡ position (λ known. same_name known name) lists.groups
group_found lists name few =
    ap (below (2 ^ 32)) (place_either_way lists.groups name)
    ∙ place_below (2 ^ 32) (λ known. same_name known name) lists.groups few.groups

-- the place of a store by its name
pub store_found : (lists : NameLists) (stores : List Store) (name : List ℕ) → AreFew lists → lists.stores ≡ store_names stores → number_in lists.stores name ≡ place_of_store stores name
store_found lists stores name few e =
    ap (below (2 ^ 32)) (place_either_way lists.stores name)
    ∙ place_below (2 ^ 32) (λ known. same_name known name) lists.stores few.stores
    ∙ ap (position (λ known. same_name known name)) e
    ∙ position-map (λ (store : Store). store.name) (λ known. same_name known name) stores

later_elements : (here : Bool) (store : Store) (stores : List Store) (later : Option ℕ) (found : Option Store) → elements_at stores later ≡ store_elements found
    → elements_at (store ∷ stores) (cond here (Some 0) (option_map suc later)) ≡ store_elements (cond here (Some store) found)
later_elements true store stores later found e = refl
later_elements false store stores None found e = e
later_elements false store stores (Some k) found e = e

no_elements : (place : Option ℕ) → elements_at [] place ≡ []
no_elements None = refl
no_elements (Some k) = refl

-- if names begin with the names of stores, the store of a name is at the place of the name
first_elements : (stores : List Store) (rest : List (List ℕ)) (name : List ℕ) → elements_at stores (position (λ known. same_name known name) (store_names stores ++ rest)) ≡ elements_named stores name
first_elements [] rest name = no_elements (position (λ known. same_name known name) rest)
first_elements (store ∷ stores) rest name =
    ap (elements_at (store ∷ stores)) (position_cons (λ known. same_name known name) store.name (store_names stores ++ rest))
    ∙ later_elements (same_name store.name name) store stores (position (λ known. same_name known name) (store_names stores ++ rest))
    (find (λ (s : Store). same_name s.name name) stores) (first_elements stores rest name)

pub elements_found : (lists : NameLists) (stores : List Store) (name : List ℕ) → AreFew lists → BeginWith stores lists.stores → elements_at stores (number_in lists.stores name) ≡ elements_named stores name
elements_found lists stores name few first =
    ap (elements_at stores)
    (ap (below (2 ^ 32)) (place_either_way lists.stores name)
    ∙ place_below (2 ^ 32) (λ known. same_name known name) lists.stores few.stores
    ∙ ap (position (λ known. same_name known name)) first.is)
    ∙ first_elements stores first.rest name

-- all stores are the first ones
pub all_begin : (lists : NameLists) (stores : List Store) → lists.stores ≡ store_names stores → BeginWith stores lists.stores
all_begin lists stores e = record { rest = []; is = e ∙ sym (append-nil (store_names stores)) }

-- if a value is found, its place is below the number of values
pub value_within : (values : List (List ℕ)) (value : List ℕ) (k : ℕ) → position (λ known. bytes_eq known value) values ≡ Some k → k < length values
value_within values value k e = (first_place (λ known. bytes_eq known value) values k e).within

-- the elements of the store at the place of a name are the elements of the store of the name
pub place_elements : (stores : List Store) (name : List ℕ) → elements_at stores (place_of_store stores name) ≡ elements_named stores name
place_elements stores name =
    ap (elements_at stores)
    (sym (position-map (λ (store : Store). store.name) (λ known. same_name known name) stores)
    ∙ ap (position (λ known. same_name known name)) (sym (append-nil (store_names stores))))
    ∙ first_elements stores [] name
