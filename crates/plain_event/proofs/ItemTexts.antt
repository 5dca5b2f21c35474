-- The characters of items.
use Rattle.std.proofs.Common.{◌≤◌, List, [], ◌∷◌, length, arith}
use Rattle.kmn_base.specs.declared.items.Item.{Item}
use Rattle.kmn_base.specs.declared.items.Item.TheVariants as item
use Rattle.kmn_base.specs.Lists.{characters}

-- a text has no more characters than items
pub length_characters : (items : List Item) → length (characters items) ≤ length items
length_characters [] = omega arith
length_characters (item.Char c ∷ items) = let h = length_characters items in omega arith
length_characters (item.Mark m ∷ items) = let h = length_characters items in omega arith
