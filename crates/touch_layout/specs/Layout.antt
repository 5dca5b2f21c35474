-- The rules of a touch layout, and the first of them that bytes break.
use Rattle.std.specs.Prelude.{ℕ, ◌&&◌, not, nat_eq, nat_lt, Bool, if◌then◌else◌, List, [], ◌∷◌, ◌++◌, length, map, bytes_eq, Option, Some, None, option_map, Result, Ok, Err}
use Rattle.std.specs.Option.{option_or}
use Rattle.std.specs.Str.{is_utf8}
use Rattle.std.specs.List.{list_any}
use Rattle.kmn_base.specs.declared.codes.Code.{Code}
use Rattle.kmn_base.specs.declared.codes.Code.TheVariants.{T1, T2, T3, T4, T5, T6, T7}
use Rattle.kmn_base.specs.declared.limits.TheConstants.{TEXT_BYTES}
use Rattle.kmn_base.specs.Names.{same_name}
use Rattle.kmn_base.specs.Texts.{without_bom}
use Rattle.serde_json.specs.Data.{Data}
use Rattle.serde_json.specs.Read.{read}
use Rattle.rule_model.specs.declared.tables.Tables.{Tables}
use Rattle.rule_model.specs.Tab.{tab}
use Rattle.touch_layout.specs.declared.faults.LayoutPlace.{LayoutPlace}
use Rattle.touch_layout.specs.declared.faults.LayoutFault.{LayoutFault}
use Rattle.touch_layout.specs.Faults.{fault, whole_layout}
use Rattle.touch_layout.specs.Ids.{is_key_id, is_touch_name, has_record}
use Rattle.touch_layout.specs.Keys.{Key}
use Rattle.touch_layout.specs.Layers.{Layer, Layout, layout_of}

-- T3: an id that isn't empty and that no key can have
abbrev pub has_strange_id : Key → Bool
has_strange_id key = nat_lt 0 (length key.id) && not (is_key_id key.id)

-- whether a layer is the one that a key leads to: of its platform, with exactly that id
abbrev pub is_next_layer : Key → Layer → Bool
is_next_layer key layer = nat_eq layer.place.platform key.place.platform && bytes_eq layer.id key.next_layer

-- T4: a key leads to a layer that its platform doesn't have
abbrev pub leads_nowhere : List Layer → Key → Bool
leads_nowhere layers key = nat_lt 0 (length key.next_layer) && not (list_any (is_next_layer key) layers)

-- T5: a T_ key without a record leads to no layer and is not a spacer
abbrev pub does_nothing : (List ℕ → Bool) → Key → Bool
does_nothing has_record key =
    is_touch_name key.id && nat_eq (length key.next_layer) 0 && not key.is_spacer && not (has_record key.id)

-- the first rule that a key breaks
abbrev pub key_code : (List ℕ → Bool) → List Layer → Key → Option Code
key_code has_record layers key =
    if has_strange_id key then Some T3
    else if leads_nowhere layers key then Some T4
    else if does_nothing has_record key then Some T5
    else None

abbrev pub key_fault : (List ℕ → Bool) → List Layer → Key → Option LayoutFault
key_fault has_record layers key = option_map (λ code. fault code key.place) (key_code has_record layers key)

-- the first key that breaks a rule
abbrev pub keys_fault : (List ℕ → Bool) → List Layer → List Key → Option LayoutFault
keys_fault has_record layers [] = None
keys_fault has_record layers (key ∷ keys) =
    option_or (key_fault has_record layers key) (keys_fault has_record layers keys)

-- whether two layers are of one platform and have the same id
abbrev pub is_same_layer : Layer → Layer → Bool
is_same_layer layer other = nat_eq other.place.platform layer.place.platform && same_name other.id layer.id

-- T6: an earlier layer of the platform has the same id
abbrev pub layer_fault : List Layer → Layer → Option LayoutFault
layer_fault before layer = if list_any (is_same_layer layer) before then Some (fault T6 layer.place) else None

-- the fault of the first layer whose id an earlier layer of its platform has
abbrev pub layers_fault : List Layer → List Layer → Option LayoutFault
layers_fault before [] = None
layers_fault before (layer ∷ layers) = option_or (layer_fault before layer) (layers_fault (before ++ layer ∷ []) layers)

-- the JSON value of bytes
abbrev pub value_of : List ℕ → Option Data
value_of text = if is_utf8 text then read text else None

-- T2: the layout of a value, or the first place with another shape
abbrev pub shaped_layout : Result Layout LayoutPlace → Result Layout LayoutFault
shaped_layout (Ok layout) = Ok layout
shaped_layout (Err place) = Err (fault T2 place)

-- T1: the layout of a value, if one was read
abbrev pub read_layout : Option Data → Result Layout LayoutFault
read_layout None = Err (fault T1 whole_layout)
read_layout (Some root) = shaped_layout (layout_of root)

-- T7: the layout of bytes, if they are not too many
abbrev pub layout_in : List ℕ → Result Layout LayoutFault
layout_in bytes =
    if nat_lt TEXT_BYTES (length bytes) then Err (fault T7 whole_layout)
    else read_layout (value_of (without_bom bytes))

-- the first rule that a layout breaks: the rule of layers precedes the rules of keys
abbrev pub rules_fault : (List ℕ → Bool) → Result Layout LayoutFault → Option LayoutFault
rules_fault has_record (Err fault) = Some fault
rules_fault has_record (Ok layout) =
    option_or (layers_fault [] layout.layers) (keys_fault has_record layout.layers layout.keys)

-- the first rule that the bytes of a layout break, for the keyboard of tables
abbrev pub layout_fault : List ℕ → Tables → Option LayoutFault
layout_fault bytes tables = rules_fault (has_record (tab tables).dictionary tables.groups) (layout_in bytes)

abbrev pub count_of : Result Layout LayoutFault → ℕ
count_of (Err fault) = 0
count_of (Ok layout) = length layout.keys

-- the ids of keys, and the ids of all keys in the bytes of a layout, including subkeys
abbrev pub id_of : Key → List ℕ
id_of key = key.id

abbrev pub ids_of : Result Layout LayoutFault → List (List ℕ)
ids_of (Err fault) = []
ids_of (Ok layout) = map id_of layout.keys

abbrev pub layout_ids : List ℕ → List (List ℕ)
layout_ids bytes = ids_of (layout_in bytes)

-- the number of keys in the bytes of a layout, including subkeys
abbrev pub key_count : List ℕ → ℕ
key_count bytes = count_of (layout_in bytes)
