-- The elements of a store as numbers; an item has the same number as an element if they are the same.
use Rattle.std.specs.Prelude.{ℕ, ◌+◌, ◌*◌}
use Rattle.kmn_base.specs.declared.items.Item.{Item}
use Rattle.kmn_base.specs.declared.items.Item.TheVariants as item
use Rattle.kmn_base.specs.declared.items.Element.{Element}
use Rattle.kmn_base.specs.declared.items.Element.TheVariants as element

-- characters have odd numbers and marks even ones; every virtual key has 0, which is not the number of an item
abbrev pub element_number : Element → ℕ
element_number (element.Char c) = 1 + 2 * c
element_number (element.Mark m) = 2 + 2 * m
element_number (element.Key flags code) = 0

abbrev pub item_number : Item → ℕ
item_number (item.Char c) = 1 + 2 * c
item_number (item.Mark m) = 2 + 2 * m
