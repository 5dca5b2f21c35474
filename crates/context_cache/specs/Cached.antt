-- The left list, by its text and its last items.
use Rattle.std.specs.Prelude.{◌≡◌, ℕ, List, ◌++◌, ◌≤◌, length, map}
use Rattle.kmn_base.specs.declared.limits.TheConstants.{WINDOW_ITEMS}
use Rattle.kmn_base.specs.declared.items.Item.{Item}
use Rattle.kmn_base.specs.declared.items.Item.TheVariants.{Char}
use Rattle.kmn_base.specs.Lists.{characters, without_last, window}

-- the list with this text whose last items are these
abbrev pub text_with_context : List ℕ → List Item → List Item
text_with_context text items = map Char (without_last (length (characters items)) text) ++ items

-- the last items preceded by characters of the text, up to 64 items
abbrev pub filled : List ℕ → List Item → List Item
filled text items = window (text_with_context text items)

-- at most 64 items, whose characters are the end of a text
pub record EndsText (items : List Item) (text : List ℕ) : Type 0 where
  pub few : length items ≤ WINDOW_ITEMS
  pub is : without_last (length (characters items)) text ++ characters items ≡ text
