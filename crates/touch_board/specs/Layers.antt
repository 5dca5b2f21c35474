-- The layers of a touch layout in a drawing: their keys with places and sizes.
use Rattle.std.specs.Prelude.{ℕ, ◌+◌, min, max, if◌then◌else◌, List, [], ◌∷◌, ◌++◌, codes, Option, Some, None, unwrap_or, option_and_then}
use Rattle.std.specs.Option.{option_or}
use Rattle.std.specs.Str.{is_utf8}
use Rattle.kmn_base.specs.Texts.{without_bom}
use Rattle.virtual_keys.specs.Dictionary.{code_in}
use Rattle.virtual_keys.specs.Keys.{key_code}
use Rattle.chart_board.specs.declared.board.Key.{Key}
use Rattle.serde_json.specs.Data.{Data, Items, no_items, item}
use Rattle.serde_json.specs.Find.{get}
use Rattle.serde_json.specs.Read.{read}
use Rattle.touch_board.specs.declared.layers.TouchKey.{TouchKey}
use Rattle.touch_board.specs.declared.layers.TouchLayer.{TouchLayer}
use Rattle.touch_board.specs.declared.layers.TheConstants.{FARTHEST, ROW}
use Rattle.touch_board.specs.Caps.{id_of, cap_of, list_in, more_of}
use Rattle.touch_board.specs.Sizes.{size_in, is_spacer}

-- the code of a key by its id: of a key that all keyboards have, otherwise of one of these custom keys; 0 if neither has the id
abbrev pub code_of : List (List ℕ) → List ℕ → ℕ
code_of names id = unwrap_or (option_or (key_code id) (code_in names id)) 0

-- the width of a key, and the space before it
abbrev pub width_of : Data → ℕ
width_of d = size_in 100 (codes "width") d

abbrev pub pad_of : Data → ℕ
pad_of d = size_in 15 (codes "pad") d

-- the left side of a key that follows a place, and the place after the key; a place farther away than `FARTHEST` counts as this one
abbrev pub left_of : ℕ → Data → ℕ
left_of place d = min place FARTHEST + pad_of d

abbrev pub right_of : ℕ → Data → ℕ
right_of place d = left_of place d + width_of d

-- the key of an object at a place, for a keyboard with these custom keys
abbrev pub board_key : List (List ℕ) → ℕ → ℕ → Data → Key
board_key names top left d =
    record { cap = cap_of d; code = code_of names (id_of d); left = left; top = top; width = width_of d }

abbrev pub touch_key : List (List ℕ) → ℕ → ℕ → Data → TouchKey
touch_key names top left d = record { id = id_of d; key = board_key names top left d; more = more_of d }

-- the key that is drawn of an object, if any: a spacer is only a space
abbrev pub drawn_key : List (List ℕ) → ℕ → ℕ → Data → List TouchKey
drawn_key names top left d = if is_spacer d then [] else touch_key names top left d ∷ []

-- the keys of a row at a height from a place on, one after the other
abbrev pub row_keys : List (List ℕ) → ℕ → ℕ → Items → List TouchKey
row_keys names top place no_items = []
row_keys names top place (item d ds) = drawn_key names top (left_of place d) d ++ row_keys names top (right_of place d) ds

-- the place after the keys of a row from a place on
abbrev pub row_end : ℕ → Items → ℕ
row_end place no_items = place
row_end place (item d ds) = row_end (right_of place d) ds

-- the same for the optional list of a row
abbrev pub keys_at : List (List ℕ) → ℕ → Option Items → List TouchKey
keys_at names top None = []
keys_at names top (Some ds) = row_keys names top 0 ds

abbrev pub end_at : Option Items → ℕ
end_at None = 0
end_at (Some ds) = row_end 0 ds

-- the height below a row; a height farther down than `FARTHEST` counts as this one
abbrev pub below : ℕ → ℕ
below top = min top FARTHEST + ROW

-- the keys of rows, the first of which is at a height
abbrev pub rows_keys : List (List ℕ) → ℕ → Items → List TouchKey
rows_keys names top no_items = []
rows_keys names top (item d ds) = keys_at names top (list_in (codes "key") d) ++ rows_keys names (below top) ds

-- the height of rows, the first of which is at a height
abbrev pub rows_height : ℕ → Items → ℕ
rows_height top no_items = top
rows_height top (item d ds) = rows_height (below top) ds

-- the width of the widest of these rows, or a width if none is wider
abbrev pub rows_width : ℕ → Items → ℕ
rows_width width no_items = width
rows_width width (item d ds) = rows_width (max width (end_at (list_in (codes "key") d))) ds

-- a layer of a platform with these rows
abbrev pub layer_with : List (List ℕ) → List ℕ → List ℕ → Items → TouchLayer
layer_with names platform id rows =
    record { platform = platform; id = id; keys = rows_keys names 0 rows; height = rows_height 0 rows; width = rows_width 0 rows }

-- a layer of a platform; its rows are optional
abbrev pub layer_at : List (List ℕ) → List ℕ → List ℕ → Option Items → TouchLayer
layer_at names platform id None = layer_with names platform id no_items
layer_at names platform id (Some rows) = layer_with names platform id rows

abbrev pub layer_of : List (List ℕ) → List ℕ → Data → TouchLayer
layer_of names platform d = layer_at names platform (id_of d) (list_in (codes "row") d)

-- the layers of a platform
abbrev pub platform_layers : List (List ℕ) → List ℕ → Items → List TouchLayer
platform_layers names platform no_items = []
platform_layers names platform (item d ds) = layer_of names platform d ∷ platform_layers names platform ds

abbrev pub layers_at : List (List ℕ) → List ℕ → Option Items → List TouchLayer
layers_at names platform None = []
layers_at names platform (Some ds) = platform_layers names platform ds

-- the layers of a platform of a root, which is optional
abbrev pub layers_in : List (List ℕ) → List ℕ → Data → List TouchLayer
layers_in names platform root = layers_at names platform (option_and_then (list_in (codes "layer")) (get platform root))

-- the layers of a root: those of a phone, of a tablet and of a desktop
abbrev pub root_layers : List (List ℕ) → Data → List TouchLayer
root_layers names root =
    layers_in names (codes "phone") root ++ (layers_in names (codes "tablet") root ++ layers_in names (codes "desktop") root)

-- the JSON value of bytes
abbrev pub value_of : List ℕ → Option Data
value_of text = if is_utf8 text then read text else None

abbrev pub value_layers : List (List ℕ) → Option Data → List TouchLayer
value_layers names None = []
value_layers names (Some root) = root_layers names root

-- the layers of the bytes of a layout, for a keyboard with these custom keys
unfoldable pub touch_layers : List (List ℕ) → List ℕ → List TouchLayer
touch_layers names bytes = value_layers names (value_of (without_bom bytes))
