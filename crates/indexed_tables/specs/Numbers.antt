-- Sets of items, represented by their numbers.
use Rattle.std.specs.Prelude.{◌≡◌, ℕ, ◌+◌, ◌*◌, nat_eq, is_some, unwrap_or, List, [], Option, Some, None, slice_get}
use Rattle.std.specs.List.{list_any, AllZip}
use Rattle.indexmap.specs.IndexSet.{insert_key}
use Rattle.kmn_base.specs.declared.items.Item.{Item}
use Rattle.kmn_base.specs.declared.items.Item.TheVariants as item
use Rattle.kmn_base.specs.declared.items.Element.{Element}
use Rattle.rule_model.specs.declared.tables.Store.{Store}
use Rattle.rule_model.specs.Match.{place_of}

-- characters have even numbers and marks odd ones
abbrev pub number_of : Item → ℕ
number_of (item.Char c) = 2 * c
number_of (item.Mark m) = 1 + 2 * m

-- a set with an optional item added
abbrev pub with_item : List ℕ → Option Item → List ℕ
with_item set None = set
with_item set (Some x) = insert_key nat_eq set (number_of x)

-- a set contains the numbers of exactly those items that are among elements
abbrev pub HasItems : List ℕ → List Element → Type 0
HasItems set elements = (x : Item) → list_any (nat_eq (number_of x)) set ≡ is_some (place_of x elements)

-- there is a set for each store, which contains the items of the store
abbrev pub AreSetsOf : List Store → List (List ℕ) → Type 0
AreSetsOf stores sets = AllZip (λ (store : Store) set. HasItems set store.elements) stores sets

-- the set of a store, or none if there is no such store
abbrev pub set_at : List (List ℕ) → ℕ → List ℕ
set_at sets store = unwrap_or (slice_get sets store) []
