-- The text before the caret: its characters, the window in which marks are kept, and how it is put, taken and read again.
use Rattle.std.specs.Prelude.{◌≡◌, ℕ, ◌-◌, Bool, true, false, ◌&&◌, ◌||◌, nat_eq, if◌then◌else◌, List, [], ◌∷◌, ◌++◌, length, take, drop, map, All}
use Rattle.std.specs.List.{ends_with}
use Rattle.kmn_base.specs.declared.items.Item.{Item}
use Rattle.kmn_base.specs.declared.items.Item.TheVariants.{Char, Mark}
use Rattle.kmn_base.specs.declared.limits.TheConstants.{WINDOW_ITEMS}

-- the characters of a list of items, without its marks
abbrev pub characters : List Item → List ℕ
characters [] = []
characters (Char c ∷ items) = c ∷ characters items
characters (Mark m ∷ items) = characters items

-- whether an item is a mark
abbrev pub is_mark : Item → Bool
is_mark (Char c) = false
is_mark (Mark m) = true

-- a list without its last n items
abbrev pub without_last : {X : Type 0} → ℕ → List X → List X
without_last n xs = take (length xs - n) xs

-- the last items, as many as the engine caches, or all items if there are fewer
abbrev pub window : List Item → List Item
window items = drop (length items - WINDOW_ITEMS) items

-- each mark is among these last items
abbrev pub IsSound : List Item → Type 0
IsSound items = All (λ item. is_mark item ≡ false) (without_last WINDOW_ITEMS items)

-- appends an item, then forgets each mark that is no longer in the window
abbrev pub put : List Item → Item → List Item
put items item = map Char (characters (without_last WINDOW_ITEMS (items ++ item ∷ []))) ++ window (items ++ item ∷ [])

-- whether the new text ends with the last items of the old one, and the text before them is known
abbrev pub is_still_suffix : List Item → List ℕ → Bool
is_still_suffix kept text = ends_with nat_eq text (characters kept) && (nat_eq (length kept) WINDOW_ITEMS || nat_eq (length text) (length (characters kept)))

-- the text read again: the marks of the window keep their positions if its characters are still there, else no mark is kept
abbrev pub read_again : List Item → List ℕ → List Item
read_again items text =
    let kept = window items in
    if is_still_suffix kept text
    then map Char (without_last (length (characters kept)) text) ++ kept
    else map Char text
