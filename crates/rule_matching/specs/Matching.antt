-- What a pattern catches from an item of a list, and what is caught from a `TakenItem`, which identifies an item by the number of items
-- after it; when the known places of items and the marks of their stores are right; what a context catches if each condition and each
-- `nul` is satisfied.
use Rattle.std.specs.Prelude.{◌≡◌, ℕ, zero, suc, ltb, ◌+◌, ◌-◌, ◌<◌, Bool, true, false, not, ◌&&◌, ◌||◌, if◌then◌else◌, List, length, map, Option, Some, None, slice_get, is_some, option_and_then}
use Rattle.std.specs.List.{list_all}
use Rattle.kmn_base.specs.declared.items.Item.{Item}
use Rattle.rule_model.specs.declared.event_state.Catch.{Catch}
use Rattle.rule_model.specs.declared.event_state.Caught.{Caught}
use Rattle.rule_model.specs.declared.tables.Store.{Store}
use Rattle.rule_model.specs.declared.tables.Tables.{Tables}
use Rattle.rule_model.specs.Keyboard.{Numbered, Pattern}
use Rattle.rule_model.specs.Match.{Content, catches_from, matches, place_for, place_of}
use Rattle.rule_model.specs.Hold.{is_true, is_at_start}
use Rattle.rule_model.specs.Content.{elements_at}
use Rattle.rule_model.specs.Tab.{tab, tab_pattern}
use Rattle.kmx_parts.specs.declared.context_item.ContextItem.{ContextItem}
use Rattle.kmx_parts.specs.declared.context_item.ContextItem.TheVariants as item
use Rattle.kmx_parts.specs.ContextItems.{pattern_of}
use Rattle.rule_matching.specs.declared.place_memory.PlaceMemory.{PlaceMemory}
use Rattle.rule_matching.specs.declared.taken.TakenItem.{TakenItem}
use Rattle.rule_matching.specs.KnownPlaces.{known_place}
use Rattle.rule_matching.specs.MatchState.{MatchStateValue, content_at}
use Rattle.rule_matching.specs.StoreMarks.{Marking, is_known, is_marked, marked_len}

-- the item that is followed by `distance` items, or None if the list is not longer than that
abbrev pub item_before : List Item → ℕ → Option Item
item_before left distance = if ltb distance (length left) then slice_get left (length left - (distance + 1)) else None

-- the first place of the item at a distance in the content of a store
abbrev pub place_before : Content → List Item → ℕ → ℕ → Option ℕ
place_before content left store distance = option_and_then (λ item. place_of item (content (Numbered store))) (item_before left distance)

-- the first place of the item at a distance in the elements that a store is defined with
abbrev pub place_in_stated : Tables → List Item → ℕ → ℕ → Option ℕ
place_in_stated tables left store distance = option_and_then (λ item. place_of item (elements_at (tab tables).stores (Some store))) (item_before left distance)

-- if the stores of an item are known, a store with space for marks is marked exactly where it is defined with the item
pub record IsMarkedRight (tables : Tables) (left : List Item) (marking : Marking) : Type 0 where
  pub right : (store distance : ℕ) → is_known marking distance ≡ true → store < marked_len marking
      → is_marked marking store distance ≡ is_some (place_in_stated tables left store distance)

-- each known place of an item is its first place in the current content of the store, and the stores are marked right
pub record RemembersRight (moment : MatchStateValue) (left : List Item) (memory : PlaceMemory) : Type 0 where
  pub right : (store distance : ℕ) (place : Option ℕ) → known_place memory.found store distance ≡ Some place → place ≡ place_before (content_at moment) left store distance
  pub marks : IsMarkedRight moment.tables left memory.marks

-- the meaning of an item of a context in the numbers of a file
abbrev pub item_meaning : List Store → ContextItem → Pattern
item_meaning stores item = tab_pattern stores (pattern_of item)

-- whether an item of a context looks at an item of the text and at a store
abbrev pub looks_at_store : ContextItem → Bool
looks_at_store (item.Any store) = true
looks_at_store (item.NotAny store) = true
looks_at_store (item.Index store offset) = true
looks_at_store other = false

-- whether an item of a context is a condition on a store
abbrev pub compares_store : ContextItem → Bool
compares_store (item.Equal store value) = true
compares_store (item.Unequal store value) = true
compares_store other = false

-- what was taken at an offset, which counts from 1
abbrev pub taken_at : List TakenItem → ℕ → Option TakenItem
taken_at taken zero = None
taken_at taken (suc before) = slice_get taken before

-- the catch from what an item of a context takes: the item, and for an `any` also its place in the store
abbrev pub caught_by_taken : Content → List Item → TakenItem → Catch
caught_by_taken content left taken = record { item = item_before left taken.distance; place = option_and_then (λ store. place_before content left store taken.distance) taken.store }

-- what a record has caught, from what the items of its context take
abbrev pub caught_by_all : Content → List Item → List TakenItem → Caught
caught_by_all content left taken = record { catches = map (caught_by_taken content left) taken; key_place = None }

-- what a pattern catches from an item, if the item matches the pattern
abbrev pub catch_of : Content → List Catch → Pattern → Item → Option Catch
catch_of content seen pattern x =
    if matches content seen pattern x then Some (record { item = Some x; place = place_for content pattern x }) else None

-- whether an item of a context is satisfied, whatever the text is: a condition is true, and for a `nul` the list has no more items than
-- the context takes
abbrev pub is_allowed : Content → Bool → Pattern → Bool
is_allowed content whole pattern = is_true content pattern && (not (is_at_start pattern) || whole)

-- whether each item of a context is satisfied in this sense
abbrev pub allowed : Content → Bool → List Pattern → Bool
allowed content whole patterns = list_all (is_allowed content whole) patterns

-- what the items of a context catch from a text, after what was caught so far, if each of them is satisfied
abbrev pub allowed_catches : Content → Bool → List Catch → List Pattern → List Item → Option (List Catch)
allowed_catches content whole seen patterns text =
    if allowed content whole patterns then catches_from content seen patterns text else None
