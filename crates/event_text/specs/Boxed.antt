-- The last items before the caret, in an optional cache on the heap.
use Rattle.std.specs.Prelude.{ℕ, List, [], Option, Some, None}
use Rattle.kmn_base.specs.declared.limits.TheConstants.{WINDOW_ITEMS}
use Rattle.kmn_base.specs.declared.items.Item.{Item}

-- the last items before the caret, and the number of items for which there is capacity
pub record CacheValue : Type 0 where
  pub items : List Item
  pub room : ℕ

-- the items and the capacity of an optional cache
abbrev pub value_in : Option (List Item) → CacheValue
value_in None = record { items = []; room = 0 }
value_in (Some items) = record { items = items; room = WINDOW_ITEMS }
