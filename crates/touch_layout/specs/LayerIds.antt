-- Layers as in the tables of ids: only the platform and the id, which look-ups compare.
use Rattle.std.specs.Prelude.{◌≡◌, ℕ, Bool, ◌&&◌, nat_eq, List, bytes_eq}
use Rattle.std.specs.Str.{str_to_ascii_lowercase}
use Rattle.std.specs.List.{list_any}
use Rattle.touch_layout.specs.Faults.{at_place}
use Rattle.touch_layout.specs.Keys.{Key}
use Rattle.touch_layout.specs.Layers.{Layer}
use Rattle.touch_layout.specs.Layout.{is_next_layer}

-- the layer of a platform with an id
abbrev pub layer_of : ℕ → List ℕ → Layer
layer_of platform id = record { place = at_place platform 0 0 0; id = id }

-- a layer with its id in lower case
abbrev pub folded : Layer → Layer
folded layer = layer_of layer.place.platform (str_to_ascii_lowercase layer.id)

abbrev pub is_equal_layer : Layer → Layer → Bool
is_equal_layer layer other = nat_eq layer.place.platform other.place.platform && bytes_eq layer.id other.id

-- each key finds the layer that it leads to in both lists of layers or in neither
abbrev pub FindsSame : List Layer → List Layer → Type 0
FindsSame some others = (key : Key) → list_any (is_next_layer key) some ≡ list_any (is_next_layer key) others
