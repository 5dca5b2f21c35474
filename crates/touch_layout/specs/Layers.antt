-- The layers and the keys that the value of a layout has, or the first place at which something has another shape.
use Rattle.std.specs.Prelude.{ℕ, ◌+◌, if◌then◌else◌, List, [], ◌∷◌, ◌++◌, map, codes, Option, Some, None, is_some, option_and_then, Result, Ok, Err}
use Rattle.kmn_base.specs.Answers.{and_then}
use Rattle.serde_json.specs.Data.{Data, Items, no_items, item}
use Rattle.serde_json.specs.Find.{get, as_str, as_array, as_object}
use Rattle.touch_layout.specs.declared.faults.LayoutPlace.{LayoutPlace}
use Rattle.touch_layout.specs.declared.keys.TouchKey.{TouchKey}
use Rattle.touch_layout.specs.declared.layers.TouchLayer.{TouchLayer}
use Rattle.touch_layout.specs.Faults.{at_place, whole_layout}
use Rattle.touch_layout.specs.Keys.{Key, key_onto, keys_view}

-- a layer at its place, with its id
pub record Layer : Type 0 where
  pub place : LayoutPlace
  pub id : List ℕ

-- the layers and the keys of a layout, each in the order of their places
pub record Layout : Type 0 where
  pub layers : List Layer
  pub keys : List Key

-- a value, else the place at which it is missing or has another shape
abbrev pub found_at : {A : Type 0} → LayoutPlace → Option A → Result A LayoutPlace
found_at place None = Err place
found_at place (Some a) = Ok a

-- the list in a member
abbrev pub list_in : List ℕ → Data → Option Items
list_in name d = option_and_then as_array (get name d)

-- the text in a member
abbrev pub text_in : List ℕ → Data → Option (List ℕ)
text_in name d = option_and_then as_str (get name d)

-- the keys found so far, followed by the keys of a row, which are numbered from `k` on
abbrev pub row_keys : ℕ → ℕ → ℕ → ℕ → List Key → Items → Result (List Key) LayoutPlace
row_keys p l r k found no_items = Ok found
row_keys p l r k found (item d ds) =
    and_then (found_at (at_place p l r k) (key_onto (at_place p l r k) found d))
    (λ found. row_keys p l r (k + 1) found ds)

-- the keys found so far, followed by the keys of the rows of a layer, which are numbered from `r` on
abbrev pub layer_rows : ℕ → ℕ → ℕ → List Key → Items → Result (List Key) LayoutPlace
layer_rows p l r found no_items = Ok found
layer_rows p l r found (item d ds) =
    and_then (and_then (found_at (at_place p l r 0) (list_in (codes "key") d)) (λ keys. row_keys p l r 1 found keys))
    (λ found. layer_rows p l (r + 1) found ds)

-- a layout with a layer appended and with these keys
abbrev pub with_layer : Layout → LayoutPlace → List ℕ → List Key → Layout
with_layer found place id keys = record { layers = found.layers ++ record { place = place; id = id } ∷ []; keys = keys }

-- a layout with a layer and the keys of its rows appended
abbrev pub layer_onto : ℕ → ℕ → Layout → Data → Result Layout LayoutPlace
layer_onto p l found d =
    and_then (found_at (at_place p l 0 0) (text_in (codes "id") d))
    (λ id. and_then (found_at (at_place p l 0 0) (list_in (codes "row") d))
    (λ rows. and_then (layer_rows p l 1 found.keys rows) (λ keys. Ok (with_layer found (at_place p l 0 0) id keys))))

-- a layout with the layers of a platform appended, which are numbered from `l` on
abbrev pub platform_layers : ℕ → ℕ → Layout → Items → Result Layout LayoutPlace
platform_layers p l found no_items = Ok found
platform_layers p l found (item d ds) = and_then (layer_onto p l found d) (λ found. platform_layers p (l + 1) found ds)

-- a layout with an optional platform appended
abbrev pub platform_onto : ℕ → Layout → Option Data → Result Layout LayoutPlace
platform_onto p found None = Ok found
platform_onto p found (Some d) =
    and_then (found_at (at_place p 0 0 0) (list_in (codes "layer") d)) (λ layers. platform_layers p 1 found layers)

-- the empty layout
abbrev pub no_layout : Layout
no_layout = record { layers = []; keys = [] }

-- the layout of a root, which must be an object: its three platforms, in order
abbrev pub layout_of : Data → Result Layout LayoutPlace
layout_of root =
    if is_some (as_object root) then
    and_then (and_then (platform_onto 1 no_layout (get (codes "phone") root)) (λ phone. platform_onto 2 phone (get (codes "tablet") root)))
    (λ tablet. platform_onto 3 tablet (get (codes "desktop") root))
    else Err whole_layout

-- the layer that a `TouchLayer` denotes
abbrev pub layer_view : TouchLayer → Layer
layer_view layer = record { place = layer.place; id = layer.id.now }

abbrev pub layers_view : List TouchLayer → List Layer
layers_view layers = map layer_view layers

abbrev pub layout_view : List TouchLayer → List TouchKey → Layout
layout_view layers keys = record { layers = layers_view layers; keys = keys_view keys }
