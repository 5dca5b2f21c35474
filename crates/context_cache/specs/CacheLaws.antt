-- The effect of the calls of a cache on the whole left list.
use Rattle.std.specs.Prelude.{◌≡◌, ℕ, ◌-◌, ◌≤◌, List, ◌∷◌, [], ◌++◌, length, drop}
use Rattle.kmn_base.specs.declared.items.Item.{Item}
use Rattle.kmn_base.specs.Lists.{characters, without_last, window, put, IsSound}
use Rattle.context_cache.specs.Cached.{text_with_context, filled, EndsText}

-- a put into the cache is a put into the list, and adds the item's character to the text
abbrev pub PutsAreOfTheList : Type 0
PutsAreOfTheList = (text : List ℕ) (items : List Item) (item : Item) → EndsText items text
    → (put (text_with_context text items) item ≡ text_with_context (text ++ characters (item ∷ [])) (window (items ++ item ∷ [])))
    × EndsText (window (items ++ item ∷ [])) (text ++ characters (item ∷ []))

-- taking items from the cache takes them from the list, and their characters from the text
abbrev pub TakesAreOfTheList : Type 0
TakesAreOfTheList = (text : List ℕ) (items : List Item) (n : ℕ) → EndsText items text → n ≤ length items
    → (without_last n (text_with_context text items) ≡ text_with_context (without_last (length (characters (drop (length items - n) items))) text) (without_last n items))
    × EndsText (without_last n items) (without_last (length (characters (drop (length items - n) items))) text)

-- filling the cache does not change the list
abbrev pub FillingKeepsTheList : Type 0
FillingKeepsTheList = (text : List ℕ) (items : List Item) → EndsText items text
    → (text_with_context text (filled text items) ≡ text_with_context text items) × EndsText (filled text items) text

-- if the marks of a list are in its window, the list is its text with the window at the end
abbrev pub TheListIsItsTextAndWindow : Type 0
TheListIsItsTextAndWindow = (items : List Item) → IsSound items → text_with_context (characters items) (window items) ≡ items
