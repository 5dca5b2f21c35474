-- Whether a rule's context and key match, and what they catch.
use Rattle.std.specs.Prelude.{ℕ, zero, suc, Bool, true, false, not, ◌&&◌, nat_eq, if◌then◌else◌, List, [], ◌∷◌, ◌++◌, Option, Some, None, is_some, slice_get, position, option_and_then}
use Rattle.kmn_base.specs.declared.items.Item.{Item}
use Rattle.kmn_base.specs.declared.items.Item.TheVariants as item
use Rattle.kmn_base.specs.declared.items.Element.{Element}
use Rattle.kmn_base.specs.declared.items.Element.TheVariants as element
use Rattle.rule_model.specs.declared.event_state.Catch.{Catch}
use Rattle.rule_model.specs.Keyboard.{Ref, Pattern, IsChar, IsMark, IsAny, IsNotAny, IsIndex, IsContextAt, IfEqual, IfUnequal, AtStart}

-- the content of each store in a state
abbrev pub Content : Type 0
Content = Ref → List Element

-- whether an element is the same as an item; a virtual key is never the same
abbrev pub is_item : Item → Element → Bool
is_item (item.Char c) (element.Char d) = nat_eq c d
is_item (item.Char c) (element.Mark m) = false
is_item (item.Char c) (element.Key flags code) = false
is_item (item.Mark m) (element.Char d) = false
is_item (item.Mark m) (element.Mark n) = nat_eq m n
is_item (item.Mark m) (element.Key flags code) = false

-- whether two items are the same
abbrev pub same_item : Item → Item → Bool
same_item (item.Char c) (item.Char d) = nat_eq c d
same_item (item.Char c) (item.Mark m) = false
same_item (item.Mark m) (item.Char c) = false
same_item (item.Mark m) (item.Mark n) = nat_eq m n

-- whether two elements are the same
abbrev pub same_element : Element → Element → Bool
same_element (element.Char c) (element.Char d) = nat_eq c d
same_element (element.Mark m) (element.Mark n) = nat_eq m n
same_element (element.Key flags code) (element.Key other other_code) = nat_eq flags other && nat_eq code other_code
same_element a b = false

-- whether two values are the same, element by element
abbrev pub same_value : List Element → List Element → Bool
same_value [] [] = true
same_value [] (b ∷ others) = false
same_value (a ∷ rest) [] = false
same_value (a ∷ rest) (b ∷ others) = same_element a b && same_value rest others

-- the item that an element denotes; a virtual key denotes none
abbrev pub item_of : Element → Option Item
item_of (element.Char c) = Some (item.Char c)
item_of (element.Mark m) = Some (item.Mark m)
item_of (element.Key flags code) = None

-- the catch at an offset, which counts from 1
abbrev pub catch_at : List Catch → ℕ → Option Catch
catch_at catches zero = None
catch_at catches (suc before) = slice_get catches before

-- the item, and the position, that was caught at an offset
abbrev pub item_caught : List Catch → ℕ → Option Item
item_caught catches offset = option_and_then (λ (catch : Catch). catch.item) (catch_at catches offset)

abbrev pub place_caught : List Catch → ℕ → Option ℕ
place_caught catches offset = option_and_then (λ (catch : Catch). catch.place) (catch_at catches offset)

-- the element at a position; None if there is no such position
abbrev pub element_at : List Element → Option ℕ → Option Element
element_at elements None = None
element_at elements (Some place) = slice_get elements place

-- the first position of an item in a store's content
abbrev pub place_of : Item → List Element → Option ℕ
place_of x elements = position (is_item x) elements

-- whether an item is the same as an optional element or item; it is not the same as None
abbrev pub is_element : Item → Option Element → Bool
is_element x None = false
is_element x (Some wanted) = is_item x wanted

abbrev pub is_same : Item → Option Item → Bool
is_same x None = false
is_same x (Some wanted) = same_item x wanted

-- whether a pattern matches an item of the text; a condition and `nul` match none
abbrev pub takes_item : Pattern → Bool
takes_item (IfEqual store value) = false
takes_item (IfUnequal store value) = false
takes_item AtStart = false
takes_item pattern = true

-- whether an item is the one that a pattern requires, after what was caught so far
abbrev pub matches : Content → List Catch → Pattern → Item → Bool
matches content seen (IsChar c) x = is_item x (element.Char c)
matches content seen (IsMark m) x = is_item x (element.Mark m)
matches content seen (IsAny store) x = is_some (place_of x (content store))
matches content seen (IsNotAny store) x = not (is_some (place_of x (content store)))
matches content seen (IsIndex store offset) x = is_element x (element_at (content store) (place_caught seen offset))
matches content seen (IsContextAt offset) x = is_same x (item_caught seen offset)
matches content seen (IfEqual store value) x = true
matches content seen (IfUnequal store value) x = true
matches content seen AtStart x = true

-- what a pattern catches of an item that it matches; an `any` also catches the position
abbrev pub place_for : Content → Pattern → Item → Option ℕ
place_for content (IsAny store) x = place_of x (content store)
place_for content pattern x = None

-- the catch of a context item that does not match text
abbrev pub nothing_caught : Catch
nothing_caught = record { item = None; place = None }

-- matches an item of the text with a pattern
abbrev pub catch_item : Content → List Catch → Pattern → (Catch → List Item → Option (List Catch)) → List Item → Option (List Catch)
catch_item content seen pattern rest [] = None
catch_item content seen pattern rest (x ∷ text) =
    if matches content seen pattern x
    then rest (record { item = Some x; place = place_for content pattern x }) text
    else None

-- matches one item of a context with the rest of the text, and then the items after it
abbrev pub catch_next : Content → List Catch → Pattern → (Catch → List Item → Option (List Catch)) → List Item → Option (List Catch)
catch_next content seen pattern rest text =
    if takes_item pattern then catch_item content seen pattern rest text else rest nothing_caught text

-- what the items of a context catch in a text, each depending on the catches before it; None if one doesn't match, or if the text is
-- longer or shorter
abbrev pub catches_from : Content → List Catch → List Pattern → List Item → Option (List Catch)
catches_from content seen [] [] = Some seen
catches_from content seen [] (x ∷ text) = None
catches_from content seen (pattern ∷ patterns) text =
    catch_next content seen pattern (λ catch rest. catches_from content (seen ++ catch ∷ []) patterns rest) text
