-- What Keyman's own engine (Keyman Core) keeps between two events, and what an event changes.
use Rattle.std.specs.Prelude.{ℕ, ◌+◌, ◌-◌, Bool, true, false, nat_le, nat_lt, if◌then◌else◌, List, [], ◌∷◌, ◌++◌, Option, length, drop}
use Rattle.std.specs.Fn.{iterate}
use Rattle.std.specs.List.{suffix_len}
use Rattle.kmn_base.specs.Lists.{is_mark, without_last}
use Rattle.kmn_base.specs.declared.items.Item.{Item}
use Rattle.kmn_base.specs.declared.items.Item.TheVariants.{Char, Mark}
use Rattle.kmn_base.specs.declared.items.Element.{Element}
use Rattle.rule_model.specs.declared.event_state.EventState.{EventState}
use Rattle.rule_model.specs.declared.tables.Tables.{Tables}
use Rattle.rule_model.specs.Keyboard.{StoreMeaning}
use Rattle.rule_model.specs.Tab.{tab}

-- the versions of the engine that were measured: 16.0.138 and 18.0.235
pub data CoreVersion : Type 0 where
  Core16 : CoreVersion
  Core18 : CoreVersion

abbrev pub is_18 : CoreVersion → Bool
is_18 Core16 = false
is_18 Core18 = true

-- a compiled keyboard as a version of the engine plays it: its tables, and its stores with which of them are options
pub record CoreKeyboard : Type 0 where
  pub version : CoreVersion
  pub tables : Tables
  pub stores : List StoreMeaning

abbrev pub core_keyboard : CoreVersion → Tables → CoreKeyboard
core_keyboard version tables = record { version = version; tables = tables; stores = (tab tables).stores }

-- what the outputs of `context`, `context(k)` and `index` use: the items that the last taken record matched, how many items of
-- its context `context(k)` doesn't count, and the places that the last tried record found in its stores, by the items of its
-- context
pub record LastMatch : Type 0 where
  pub kept : List Item
  pub skipped : ℕ
  pub places : List ℕ

-- the state of the engine between two events. `ended` is the flag that output has ended, which nothing clears
pub record CoreState : Type 0 where
  pub left : List Item
  pub current : List (List Element)
  pub saved : List (Option (List Element))
  pub last : LastMatch
  pub ended : Bool

-- the state in an event: the text and the options, the window, how many effects are queued, and the stores to save at the end of
-- the event
pub record CoreEvent : Type 0 where
  pub event : EventState
  pub window : List Item
  pub queued : ℕ
  pub last : LastMatch
  pub to_save : List ℕ
  pub ended : Bool

-- how many 16-bit units the engine keeps for an item
abbrev pub weight : Item → ℕ
weight (Char c) = if nat_lt c 0x1_0000 then 1 else 2
weight (Mark m) = 3

abbrev pub units : List Item → ℕ
units [] = 0
units (x ∷ items) = weight x + units items

-- how many units a rule can see
abbrev pub window_units : ℕ
window_units = 63

-- the longest end of at most 63 units, given the units of all items
abbrev pub seen_end : ℕ → List Item → List Item
seen_end total [] = []
seen_end total (x ∷ items) = if nat_le total window_units then x ∷ items else seen_end (total - weight x) items

-- the window: the longest end of at most 63 units
abbrev pub window_of : List Item → List Item
window_of items = seen_end (units items) items

-- the last n items, or all of fewer
abbrev pub last_items : ℕ → List Item → List Item
last_items n items = drop (length items - n) items

-- how many effects an event can queue
abbrev pub queue_places : ℕ
queue_places = 1024

-- an effect takes a place in the queue; if all places are taken, it is lost
abbrev pub core_queue : (CoreEvent → CoreEvent) → CoreEvent → CoreEvent
core_queue effect c = if nat_le queue_places c.queued then c else effect (record c { queued = c.queued + 1 })

abbrev pub with_left : List Item → CoreEvent → CoreEvent
with_left left c = record c { event = record (c.event) { left = left } }

-- an item is put at the end of the text and of the window, which drops items from its front
abbrev pub put_at_end : Item → CoreEvent → CoreEvent
put_at_end x c = with_left (c.event.left ++ x ∷ []) (record c { window = window_of (c.window ++ x ∷ []) })

abbrev pub core_put : Item → CoreEvent → CoreEvent
core_put x = core_queue (put_at_end x)

abbrev pub core_put_all : List Item → CoreEvent → CoreEvent
core_put_all [] c = c
core_put_all (x ∷ items) c = core_put_all items (core_put x c)

-- the last item is deleted from the text and from the window, which stays shorter until the next event
abbrev pub delete_at_end : CoreEvent → CoreEvent
delete_at_end c = with_left (without_last 1 c.event.left) (record c { window = without_last 1 c.window })

-- the last n items are deleted one by one
abbrev pub core_back : ℕ → CoreEvent → CoreEvent
core_back = iterate (core_queue delete_at_end)

-- the marks at the end of the window are deleted
abbrev pub core_back_marks : CoreEvent → CoreEvent
core_back_marks c = core_back (suffix_len is_mark c.window) c
