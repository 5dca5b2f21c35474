-- The texts of a key of a touch layout: its id, its key cap, and what else it can do.
use Rattle.std.specs.Prelude.{ℕ, nat_eq, if◌then◌else◌, List, [], ◌∷◌, ◌++◌, length, codes, Option, Some, None, unwrap_or, option_and_then}
use Rattle.std.specs.List.{concat}
use Rattle.serde_json.specs.Data.{Data, Items, no_items, item}
use Rattle.serde_json.specs.Find.{get, as_str, as_array}

-- the text in a member
abbrev pub text_in : List ℕ → Data → Option (List ℕ)
text_in name d = option_and_then as_str (get name d)

-- the list in a member
abbrev pub list_in : List ℕ → Data → Option Items
list_in name d = option_and_then as_array (get name d)

-- the id of a key or of a layer; empty if it has none
abbrev pub id_of : Data → List ℕ
id_of d = unwrap_or (text_in (codes "id") d) []

-- the key cap: the text of a key, or its id if it has no text
abbrev pub cap_of : Data → List ℕ
cap_of d = unwrap_or (text_in (codes "text") d) (id_of d)

-- a sign, and the key cap of a key that a gesture on another key reaches
unfoldable pub cap_behind : List ℕ → Data → List ℕ
cap_behind sign d = concat (sign ∷ cap_of d ∷ codes " " ∷ [])

-- the key caps of keys, each after a sign
abbrev pub caps_behind : List ℕ → Items → List ℕ
caps_behind sign no_items = []
caps_behind sign (item d ds) = cap_behind sign d ++ caps_behind sign ds

-- the key caps of an optional list
abbrev pub caps_at : List ℕ → Option Items → List ℕ
caps_at sign None = []
caps_at sign (Some ds) = caps_behind sign ds

-- the members of a flick that are keys
unfoldable pub directions : List (List ℕ)
directions = codes "n" ∷ codes "ne" ∷ codes "e" ∷ codes "se" ∷ codes "s" ∷ codes "sw" ∷ codes "w" ∷ codes "nw" ∷ []

-- a direction with a colon, and the key cap of its key, if there is one
unfoldable pub flick_cap : List ℕ → Option Data → List ℕ
flick_cap direction None = []
flick_cap direction (Some d) = direction ++ cap_behind (codes ":") d

-- the key caps of a flick in these directions
abbrev pub flick_caps : Data → List (List ℕ) → List ℕ
flick_caps d [] = []
flick_caps d (direction ∷ more) = flick_cap direction (get direction d) ++ flick_caps d more

-- the key caps of an optional flick
abbrev pub flicks_at : Option Data → List ℕ
flicks_at None = []
flicks_at (Some d) = flick_caps d directions

-- the layer that a key shows, after a sign; empty if it shows none
unfoldable pub next_layer : List ℕ → List ℕ
next_layer name = if nat_eq (length name) 0 then [] else concat (codes ">" ∷ name ∷ codes " " ∷ [])

-- what else a key can do: the layer that it shows, the key caps of its long press, of its flick and of its multitap
unfoldable pub more_of : Data → List ℕ
more_of d = concat (
    next_layer (unwrap_or (text_in (codes "nextlayer") d) []) ∷ caps_at [] (list_in (codes "sk") d) ∷ flicks_at (get (codes "flick") d)
    ∷ caps_at (codes "tap:") (list_in (codes "multitap") d) ∷ [])
