-- The text before the caret while an event acts: what remains of the borrowed text, what was put, and the last items.
use Rattle.std.specs.Prelude.{ℕ, List}
use Rattle.kmn_base.specs.declared.items.Item.{Item}

-- the characters that an event inserted, and the capacity of the buffer for the next event
pub record InsertedValue : Type 0 where
  pub text : List ℕ
  pub room : ℕ

-- a text that results from the borrowed text by taking and putting at its end, and the number of its last characters that were put
pub record StandingValue : Type 0 where
  pub lent : List ℕ
  pub text : List ℕ
  pub added : ℕ

-- the borrowed text, the left list, its last items that are cached, and the number of items that were put
pub record LeftValue : Type 0 where
  pub lent : List ℕ
  pub items : List Item
  pub cache : List Item
  pub put : ℕ
