-- What a press of a key does, as a chart shows it.
use Rattle.std.specs.Prelude.{ℕ, zero, suc, ◌-◌, Bool, true, false, not, ◌&&◌, nat_eq, List, [], ◌∷◌, drop, length, Option, Some}
use Rattle.std.specs.List.{common_prefix_len}
use Rattle.kmn_base.specs.declared.items.Item.{Item}
use Rattle.kmn_base.specs.declared.items.Item.TheVariants.{Char, Mark}
use Rattle.kmn_base.specs.declared.keys.KeyPress.{KeyPress}
use Rattle.kmn_base.specs.Lists.{characters}
use Rattle.virtual_keys.specs.Fits.{char_of_press}
use Rattle.rule_model.specs.declared.event_state.EventState.{EventState}
use Rattle.rule_model.specs.declared.tables.Tables.{Tables}
use Rattle.rule_model.specs.Event.{State}
use Rattle.rule_model.specs.KeyEvent.{begin_event, after_key, common_prefix, deleted}
use Rattle.rule_model.specs.Match.{same_item}
use Rattle.rule_model.specs.Tab.{tab}
use Rattle.chart_board.specs.declared.cells.Cell.{Cell}

-- whether an item is a character
abbrev pub is_char : Item → Bool
is_char (Char c) = true
is_char (Mark m) = false

-- a number of characters, less one if an item is a character
abbrev pub characters_left : ℕ → Item → ℕ
characters_left n (Char c) = n - 1
characters_left n (Mark m) = n

-- the items after the first n characters
abbrev pub items_after : ℕ → List Item → List Item
items_after zero items = items
items_after (suc n) [] = []
items_after (suc n) (Char c ∷ items) = items_after n items
items_after (suc n) (Mark m ∷ items) = items_after (suc n) items

-- the items of a second list after what both begin with
abbrev pub without_common : List Item → List Item → List Item
without_common old new = drop (common_prefix_len same_item old new) new

-- the items that a press put: those after the characters that the old text and the new one begin with, without the marks that were there
-- before the press
abbrev pub put_items : List Item → List Item → List Item
put_items old new =
    let kept = common_prefix (characters old) (characters new) in
    without_common (items_after kept old) (items_after kept new)

-- what a press did, from the items before it and the state that it leaves: how many characters it deleted, the items that it put,
-- whether it was passed on, and its beeps
abbrev pub cell_of : List Item → EventState → Cell
cell_of old s = record { deleted = deleted old s.left; items = put_items old s.left; passed = s.pass; beeps = s.beeps }

-- what a press does in a state of the keyboard that tables mean
unfoldable pub cell : Tables → State → KeyPress → Cell
cell tables state press = cell_of state.left (after_key (tab tables) press (begin_event state.left state.current state.saved))

-- whether items are one character, and which
abbrev pub is_character : Option ℕ → List Item → Bool
is_character (Some c) (Char d ∷ []) = nat_eq c d
is_character _ _ = false

-- whether a press only inserts the character of its key on a US board
abbrev pub is_us : KeyPress → Cell → Bool
is_us press cell = is_character (char_of_press press) cell.items && nat_eq cell.deleted 0 && not cell.passed && nat_eq cell.beeps 0

-- whether a press is passed on and does nothing else
abbrev pub is_empty : Cell → Bool
is_empty cell = cell.passed && nat_eq (length cell.items) 0 && nat_eq cell.deleted 0 && nat_eq cell.beeps 0

-- the numbers of the marks among items, in order
abbrev pub marks : List Item → List ℕ
marks [] = []
marks (Char c ∷ items) = marks items
marks (Mark m ∷ items) = m ∷ marks items
