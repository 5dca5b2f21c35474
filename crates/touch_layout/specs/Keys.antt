-- The keys of a touch layout: each key is followed by its subkeys, in the order of their places.
use Rattle.std.specs.Prelude.{ℕ, List, [], ◌∷◌, ◌++◌, codes, Option, Some, None, Bool, false, ◌||◌, nat_eq, option_and_then, option_map, fold, map, bytes_eq}
use Rattle.std.specs.Ordering.{nat_cmp, match_ordering}
use Rattle.std.specs.Cmp.Lexicographic.{slice_cmp}
use Rattle.std.specs.Option.{option_map_or}
use Rattle.serde_json.specs.Data.{Data, null, boolean, number, string, array, object, Items, no_items, item, Members, no_members, member}
use Rattle.serde_json.specs.Find.{get, as_str, as_u64}
use Rattle.touch_layout.specs.declared.faults.LayoutPlace.{LayoutPlace}
use Rattle.touch_layout.specs.declared.keys.TouchKey.{TouchKey}

-- a key: its place, its id and the layer that it leads to, each empty if absent, and whether its `sp` makes it blank or a spacer
pub record Key : Type 0 where
  pub place : LayoutPlace
  pub id : List ℕ
  pub next_layer : List ℕ
  pub is_spacer : Bool

-- the text of an optional member, empty if it is absent; None if the member is not a text
abbrev pub optional_text : Option Data → Option (List ℕ)
optional_text None = Some []
optional_text (Some d) = as_str d

-- the numbers of `sp` for a blank key and for a spacer
abbrev pub is_spacer_number : ℕ → Bool
is_spacer_number n = nat_eq n 9 || nat_eq n 10

-- whether an `sp` is 9 or 10, as a whole number or a text; None if it is neither a number nor a text
abbrev pub spacer_of : Data → Option Bool
spacer_of null = None
spacer_of (boolean b) = None
spacer_of (number n) = Some (option_map_or is_spacer_number (as_u64 n) false)
spacer_of (string s) = Some (bytes_eq s (codes "9") || bytes_eq s (codes "10"))
spacer_of (array ds) = None
spacer_of (object ms) = None

-- whether an optional `sp` is 9 or 10; None if it is neither a number nor a text
abbrev pub optional_spacer : Option Data → Option Bool
optional_spacer None = Some false
optional_spacer (Some d) = spacer_of d

-- the key of an object without its subkeys; None if a member has another shape
abbrev pub own_key : LayoutPlace → Data → Option Key
own_key place d =
    option_and_then
    (λ id. option_and_then (λ next. option_map (λ spacer. record { place = place; id = id; next_layer = next; is_spacer = spacer })
    (optional_spacer (get (codes "sp") d))) (optional_text (get (codes "nextlayer") d))) (optional_text (get (codes "id") d))

-- the keys found so far, followed by the key of an object
abbrev pub own_onto : LayoutPlace → List Key → Data → Option (List Key)
own_onto place found d = option_map (λ key. found ++ key ∷ []) (own_key place d)

-- the members of `flick` that are keys, in the order in which they are read
unfoldable pub directions : List (List ℕ)
directions = codes "n" ∷ codes "ne" ∷ codes "e" ∷ codes "se" ∷ codes "s" ∷ codes "sw" ∷ codes "w" ∷ codes "nw" ∷ []

abbrev mutual
  -- the keys found so far, followed by a key and its subkeys: `sk`, then `flick`, then `multitap`; None if one of them has
  -- another shape
  pub key_onto : LayoutPlace → List Key → Data → Option (List Key)
  key_onto place found null = None
  key_onto place found (boolean b) = None
  key_onto place found (number n) = None
  key_onto place found (string s) = None
  key_onto place found (array ds) = None
  key_onto place found (object ms) =
      option_and_then (λ found. option_and_then (λ found. option_and_then (λ found. list_member place (codes "multitap") found ms)
      (flick_member place found ms)) (list_member place (codes "sk") found ms)) (own_onto place found (object ms))

  -- the keys found so far, followed by the keys of a list
  pub list_onto : LayoutPlace → List Key → Data → Option (List Key)
  list_onto place found null = None
  list_onto place found (boolean b) = None
  list_onto place found (number n) = None
  list_onto place found (string s) = None
  list_onto place found (array ds) = items_onto place found ds
  list_onto place found (object ms) = None

  pub items_onto : LayoutPlace → List Key → Items → Option (List Key)
  items_onto place found no_items = Some found
  items_onto place found (item d ds) = option_and_then (λ found. items_onto place found ds) (key_onto place found d)

  -- the keys found so far, followed by the keys of a flick, direction by direction
  pub directions_onto : LayoutPlace → List Key → Data → Option (List Key)
  directions_onto place found null = None
  directions_onto place found (boolean b) = None
  directions_onto place found (number n) = None
  directions_onto place found (string s) = None
  directions_onto place found (array ds) = None
  directions_onto place found (object ms) =
      fold (λ sofar name. option_and_then (λ found. key_member place name found ms) sofar) (Some found) directions

  -- the keys found so far, followed by the keys of an optional member: a list, the flick, or a single key
  pub list_member : LayoutPlace → List ℕ → List Key → Members → Option (List Key)
  list_member place name found no_members = Some found
  list_member place name found (member k d ms) =
      match_ordering (slice_cmp nat_cmp name k) (list_member place name found ms) (list_onto place found d) (list_member place name found ms)

  pub flick_member : LayoutPlace → List Key → Members → Option (List Key)
  flick_member place found no_members = Some found
  flick_member place found (member k d ms) =
      match_ordering (slice_cmp nat_cmp (codes "flick") k) (flick_member place found ms) (directions_onto place found d) (flick_member place found ms)

  pub key_member : LayoutPlace → List ℕ → List Key → Members → Option (List Key)
  key_member place name found no_members = Some found
  key_member place name found (member k d ms) =
      match_ordering (slice_cmp nat_cmp name k) (key_member place name found ms) (key_onto place found d) (key_member place name found ms)

-- the keys found so far, followed by the keys of what a look-up returns: a list, the flick, or a single key
abbrev pub list_at : LayoutPlace → List Key → Option Data → Option (List Key)
list_at place found None = Some found
list_at place found (Some d) = list_onto place found d

abbrev pub flick_at : LayoutPlace → List Key → Option Data → Option (List Key)
flick_at place found None = Some found
flick_at place found (Some d) = directions_onto place found d

abbrev pub key_at : LayoutPlace → List Key → Option Data → Option (List Key)
key_at place found None = Some found
key_at place found (Some d) = key_onto place found d

-- the keys found so far, followed by the keys in the members with these names
abbrev pub names_onto : LayoutPlace → Data → List (List ℕ) → List Key → Option (List Key)
names_onto place d [] found = Some found
names_onto place d (name ∷ names) found = option_and_then (λ found. names_onto place d names found) (key_at place found (get name d))

-- the key that a `TouchKey` denotes
abbrev pub key_view : TouchKey → Key
key_view key = record { place = key.place; id = key.id.now; next_layer = key.next_layer.now; is_spacer = key.is_spacer }

abbrev pub keys_view : List TouchKey → List Key
keys_view keys = map key_view keys
