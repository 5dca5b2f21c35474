-- What each store holds, as a list of cells by store number, and the values that the cells denote.
use Rattle.std.specs.Prelude.{ℕ, zero, suc, ◌+◌, List, [], ◌∷◌, map, Option, Some, None, option_map, unwrap_or, slice_get, slice_set}
use Rattle.kmn_base.specs.declared.items.Element.{Element}
use Rattle.kmn_base.specs.declared.items.Element.TheVariants.{Char}
use Rattle.option_store.specs.declared.options.Cell.{Cell}
use Rattle.option_store.specs.declared.options.Held.{Held}
use Rattle.option_store.specs.declared.options.Held.TheVariants.{Store, Host}

-- the cell of a store that holds its own elements, with nothing saved and no text of the host
abbrev pub first_cell : ℕ → Cell
first_cell store = record { current = Store store; saved = None; text = [] }

-- the first cells of n stores, from the number `store` on
abbrev pub first_cells : ℕ → ℕ → List Cell
first_cells store zero = []
first_cells store (suc n) = first_cell store ∷ first_cells (store + 1) n

-- `set`: the current value becomes the elements of another store, and the saved value is unchanged
abbrev pub set_cell : ℕ → Cell → Cell
set_cell value cell = record cell { current = Store value }

-- `save`: the current value becomes the saved value, too
abbrev pub save_cell : Cell → Cell
save_cell cell = record cell { saved = Some cell.current }

-- `reset`: the current value becomes the saved value, or the store's own elements if nothing is saved
abbrev pub reset_cell : ℕ → Cell → Cell
reset_cell store cell = record cell { current = unwrap_or cell.saved (Store store) }

-- the host sets a text, as the current and as the saved value
abbrev pub host_cell : List ℕ → Cell → Cell
host_cell text cell = record { current = Host; saved = Some Host; text = text }

-- the cell of a store, or a first cell if the store is past the last one
abbrev pub cell_at : List Cell → ℕ → Cell
cell_at cells store = unwrap_or (slice_get cells store) (first_cell store)

-- the cells after the cell of a store is changed and all others are unchanged
abbrev pub changed : ℕ → (Cell → Cell) → List Cell → List Cell
changed store change cells = slice_set cells store (change (cell_at cells store))

-- what is held, given the elements of each store and the host's text: the elements of a store, or the text
abbrev pub held_value : List (List Element) → List ℕ → Held → List Element
held_value elements text (Store n) = unwrap_or (slice_get elements n) []
held_value elements text Host = map Char text

-- the current and the saved value that a cell denotes
abbrev pub current_value : List (List Element) → Cell → List Element
current_value elements cell = held_value elements cell.text cell.current

abbrev pub saved_value : List (List Element) → Cell → Option (List Element)
saved_value elements cell = option_map (held_value elements cell.text) cell.saved

-- the values of all stores, by store number
abbrev pub current_values : List (List Element) → List Cell → List (List Element)
current_values elements cells = map (current_value elements) cells

abbrev pub saved_values : List (List Element) → List Cell → List (Option (List Element))
saved_values elements cells = map (saved_value elements) cells
