-- Which stores have an item, and its first place in each.
use Rattle.std.specs.Prelude.{◌≡◌, ◌≢◌, ℕ, ◌+◌, ◌*◌, ◌<◌, ◌≤◌, ◌&&◌, nat_eq, if◌then◌else◌, List, [], length, slice_index_or, Option, Some, None}
use Rattle.std.specs.List.{All, AllPairs, Any, Contains}
use Rattle.std.specs.List.Sorted.{IsNonDecreasingBy}
use Rattle.kmn_base.specs.declared.items.Item.{Item}
use Rattle.kmn_base.specs.declared.items.Element.{Element}
use Rattle.rule_model.specs.Match.{place_of}
use Rattle.rule_index.specs.declared.holding.Holding.{Holding}
use Rattle.rule_index.specs.Elements.{item_number}

-- an item and a store below 65536 as one number: the lowest rank of a row of both
abbrev pub holding_start : ℕ → ℕ → ℕ
holding_start item store = (item * 65536 + store) * 65536

-- the rank of a row: rows are sorted by item, then by store, and then by place
abbrev pub holding_rank : Holding → ℕ
holding_rank row = (row.item * 65536 + row.store) * 65536 + row.place

-- the elements of a store by its number, or no elements if there is no such store
abbrev pub content_at : List (List Element) → ℕ → List Element
content_at stores store = slice_index_or stores store []

-- the row of an item and its first place in a store
abbrev pub holding_of : Item → ℕ → ℕ → Holding
holding_of x store place = record { item = item_number x; store = store; place = place }

-- an item that has a row's number has its first place in the row's store at the row's place
abbrev pub IsHeld : List (List Element) → Holding → Type 0
IsHeld stores row = (x : Item) → item_number x ≡ row.item → place_of x (content_at stores row.store) ≡ Some row.place

-- the store and the place of a row have 16 bits
abbrev pub IsSmall : Holding → Type 0
IsSmall row = (row.store < 65536) × (row.place < 65536)

-- no two rows have the same rank
abbrev pub HaveDistinctRanks : List Holding → Type 0
HaveDistinctRanks rows = AllPairs (λ a b. holding_rank a ≢ holding_rank b) rows

-- the rows of the first `count` stores, in any order, each once
pub record AreGathered (stores : List (List Element)) (rows : List Holding) (count : ℕ) : Type 0 where
  pub small : All IsSmall rows
  pub right : All (IsHeld stores) rows
  pub once : HaveDistinctRanks rows
  pub within : All (λ row. row.store < count) rows
  pub complete : (x : Item) (store place : ℕ) → store < count → place_of x (content_at stores store) ≡ Some place → Contains rows (holding_of x store place)

-- the rows of all stores, sorted, each once
pub record AreHoldings (stores : List (List Element)) (rows : List Holding) : Type 0 where
  pub sorted : IsNonDecreasingBy holding_rank rows
  pub once : HaveDistinctRanks rows
  pub small : All IsSmall rows
  pub right : All (IsHeld stores) rows
  pub complete : (x : Item) (store place : ℕ) → place_of x (content_at stores store) ≡ Some place → Contains rows (holding_of x store place)

-- the rows before a place are the rows whose rank is less than a start
pub record EndsAt (start : ℕ) (rows : List Holding) (place : ℕ) : Type 0 where
  pub within : place ≤ length rows
  pub before : (k : ℕ) (d : Holding) → k < place → holding_rank (slice_index_or rows k d) < start
  pub behind : (k : ℕ) (d : Holding) → place ≤ k → k < length rows → start ≤ holding_rank (slice_index_or rows k d)

-- the place of an optional row, if the row is of an item and a store
abbrev pub place_if : ℕ → ℕ → Option Holding → Option ℕ
place_if item store None = None
place_if item store (Some row) = if nat_eq row.item item && nat_eq row.store store then Some row.place else None

-- each row is of an item and has its first place in a store, every store that has the item has a row, and the store numbers increase
pub record AreHoldersOf (x : Item) (contents : ℕ → List Element) (rows : List Holding) : Type 0 where
  pub items : All (λ row. row.item ≡ item_number x) rows
  pub each : All (λ row. place_of x (contents row.store) ≡ Some row.place) rows
  pub all : (store place : ℕ) → place_of x (contents store) ≡ Some place → Any (λ row. row.store ≡ store) rows
  pub rise : AllPairs (λ a b. a.store < b.store) rows
