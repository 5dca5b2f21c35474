-- A layout has at most one more key than its text has bytes.
use Rattle.std.proofs.Common.{◌≡◌, ℕ, suc, ◌+◌, ◌≤◌, ◌||◌, List, [], ◌∷◌, ◌++◌, codes, length, length-append, Bool, true, false, Option, Some, None, option_map, option_and_then, Result, Ok, Err, is_eq, bytes_eq, Ordering, Less, Equal, Greater, refl, sym, ap, ◌∙◌, subst, arith, nat_cmp, fold, if◌then◌else◌}
use Rattle.std.specs.Prelude.{⊤}
use Rattle.std.specs.Ordering.{match_ordering}
use Rattle.std.specs.Cmp.Lexicographic.{slice_cmp}
use Rattle.std.specs.List.{list_any}
use Rattle.std.specs.Str.{is_utf8}
use Rattle.std.proofs.lemmas.Bool.{or_parts}
use Rattle.std.proofs.lemmas.Map.Text.{is_eq-slice_cmp}
use Rattle.std.proofs.lemmas.Slice.Eq.{bytes_eq-Decides}
use Rattle.kmn_base.specs.Answers.{and_then}
use Rattle.serde_json.specs.Data.{Data, null, boolean, number, string, array, object, Items, no_items, item, Members, no_members, member}
use Rattle.serde_json.specs.Read.{read}
use Rattle.serde_json.specs.View.{view}
use Rattle.serde_json.specs.declared.value.Value.{Value}
use Rattle.serde_json.specs.Find.{get, get_member, as_array}
use Rattle.touch_layout.specs.declared.faults.LayoutPlace.{LayoutPlace}
use Rattle.touch_layout.specs.Faults.{at_place}
use Rattle.touch_layout.specs.Keys.{Key, own_key, key_onto, list_onto, items_onto, directions, directions_onto, list_member, flick_member, key_member}
use Rattle.touch_layout.specs.Layers.{Layout, found_at, list_in, text_in, row_keys, layer_rows, layer_onto, platform_layers, platform_onto, no_layout, layout_of}
use Rattle.touch_layout.specs.Layout.{value_of, shaped_layout, read_layout, count_of}
use Rattle.touch_layout.proofs.ValueSizes.{size, items_size, members_size, AtMost, AtMost-and_then, AtMost-raise, AtMost-zero, read_within}

-- ---- what is looked up under different names

abbrev size_at : Option Data → ℕ
size_at None = 0
size_at (Some d) = size d

-- the number of values in the members with these names
abbrev sizes_at : List (List ℕ) → Members → ℕ
sizes_at [] ms = 0
sizes_at (name ∷ names) ms = size_at (get_member name ms) + sizes_at names ms

abbrev has_twice : List (List ℕ) → Bool
has_twice [] = false
has_twice (name ∷ names) = list_any (λ other. bytes_eq other name) names || has_twice names

differs : (name other key : List ℕ) → slice_cmp nat_cmp name key ≡ Equal → bytes_eq other name ≡ false → is_eq (slice_cmp nat_cmp other key) ≡ false
differs name other key same apart =
    let equal = (bytes_eq-Decides name key).0 (sym (is_eq-slice_cmp name key) ∙ ap is_eq same) in
    is_eq-slice_cmp other key ∙ ap (bytes_eq other) (sym equal) ∙ apart

passed_over : (o : Ordering) (d : Data) (more : Option Data) → is_eq o ≡ false → match_ordering o more (Some d) more ≡ more
passed_over Less d more differs = refl
passed_over Equal d more differs = cc
passed_over Greater d more differs = refl

none_of_them : (name : List ℕ) (names : List (List ℕ)) (key : List ℕ) (d : Data) (ms : Members) → slice_cmp nat_cmp name key ≡ Equal
    → list_any (λ other. bytes_eq other name) names ≡ false → sizes_at names (member key d ms) ≡ sizes_at names ms
none_of_them name [] key d ms same apart = refl
none_of_them name (other ∷ names) key d ms same apart =
    let both = or_parts (bytes_eq other name) (list_any (λ other. bytes_eq other name) names) apart in
    let here = ap size_at (passed_over (slice_cmp nat_cmp other key) d (get_member other ms) (differs name other key same both.0)) in
    let rest = none_of_them name names key d ms same both.1 in
    omega arith

first_name : (o : Ordering) (name : List ℕ) (names : List (List ℕ)) (key : List ℕ) (d : Data) (ms : Members) → slice_cmp nat_cmp name key ≡ o
    → list_any (λ other. bytes_eq other name) names ≡ false → sizes_at names (member key d ms) ≤ size d + sizes_at names ms
    → size_at (match_ordering o (get_member name ms) (Some d) (get_member name ms)) + sizes_at names (member key d ms)
    ≤ size d + (size_at (get_member name ms) + sizes_at names ms)
first_name Less name names key d ms is apart rest = omega arith
first_name Equal name names key d ms is apart rest = let others = none_of_them name names key d ms is apart in omega arith
first_name Greater name names key d ms is apart rest = omega arith

one_of_them : (names : List (List ℕ)) (key : List ℕ) (d : Data) (ms : Members) → has_twice names ≡ false
    → sizes_at names (member key d ms) ≤ size d + sizes_at names ms
one_of_them [] key d ms once = omega arith
one_of_them (name ∷ names) key d ms once =
    let both = or_parts (list_any (λ other. bytes_eq other name) names) (has_twice names) once in
    first_name (slice_cmp nat_cmp name key) name names key d ms refl both.0 (one_of_them names key d ms both.1)

no_sizes : (names : List (List ℕ)) → sizes_at names no_members ≡ 0
no_sizes [] = refl
no_sizes (name ∷ names) = omega (arith, no_sizes names)

sizes_within : (names : List (List ℕ)) (ms : Members) → has_twice names ≡ false → sizes_at names ms ≤ members_size ms
sizes_within names no_members once = omega (arith, no_sizes names)
sizes_within names (member key d ms) once =
    let here = one_of_them names key d ms once in let rest = sizes_within names ms once in omega arith

-- ---- the keys of a key

-- if the bound on keys applies to the other members and to a member with the name, it applies to all members
at_name : (o : Ordering) (n : ℕ) (d : Data) (more : Option Data) (rest here : Option (List Key)) → AtMost length (n + size_at more) rest
    → AtMost length (n + size d) here → AtMost length (n + size_at (match_ordering o more (Some d) more)) (match_ordering o rest here rest)
at_name Less n d more rest here fewer few = fewer
at_name Equal n d more rest here fewer few = few
at_name Greater n d more rest here fewer few = fewer

own_within : (found : List Key) (own : Option Key) → AtMost length (length found + 1) (option_map (λ key. found ++ key ∷ []) own)
own_within found None = tt
own_within found (Some key) = omega (arith, length-append found (key ∷ []))

-- if each step adds at most as many keys as there are values in the member with its name, all steps add at most the sum
folded_within : (ms : Members) (step : List ℕ → List Key → Option (List Key))
    → ((name : List ℕ) (found : List Key) → AtMost length (length found + size_at (get_member name ms)) (step name found))
    → (names : List (List ℕ)) (sofar : Option (List Key)) (n : ℕ) → AtMost length n sofar
    → AtMost length (n + sizes_at names ms) (fold (λ sofar name. option_and_then (λ found. step name found) sofar) sofar names)
folded_within ms step each [] sofar n few = AtMost-raise length n (n + 0) (omega arith) sofar few
folded_within ms step each (name ∷ names) sofar n few =
    let more = size_at (get_member name ms) in
    let next = AtMost-and_then length length n (n + more) (λ found. step name found)
    (λ found below. AtMost-raise length (length found + more) (n + more) (omega arith) (step name found) (each name found)) sofar few in
    AtMost-raise length (n + more + sizes_at names ms) (n + (more + sizes_at names ms)) (omega arith) _
    (folded_within ms step each names (option_and_then (λ found. step name found) sofar) (n + more) next)

members_once : (ms : Members) → size_at (get_member (codes "sk") ms) + (size_at (get_member (codes "flick") ms) + (size_at (get_member (codes "multitap") ms) + 0)) ≤ members_size ms
members_once ms = sizes_within (codes "sk" ∷ codes "flick" ∷ codes "multitap" ∷ []) ms refl

directions_once : (ms : Members) → sizes_at directions ms ≤ members_size ms
unfolding directions
directions_once ms = sizes_within directions ms refl

mutual
  key_within : (place : LayoutPlace) (found : List Key) (d : Data) → AtMost length (length found + size d) (key_onto place found d)
  key_within place found null = tt
  key_within place found (boolean b) = tt
  key_within place found (number n) = tt
  key_within place found (string s) = tt
  key_within place found (array ds) = tt
  key_within place found (object ms) =
      let all = members_once ms in
      let most = length found + suc (members_size ms) in
      AtMost-and_then length length (length found + 1) most _
      (λ own few. AtMost-and_then length length (length own + size_at (get_member (codes "sk") ms)) most _
      (λ listed more. AtMost-and_then length length (length listed + size_at (get_member (codes "flick") ms)) most _
      (λ flicked still. AtMost-raise length (length flicked + size_at (get_member (codes "multitap") ms)) most (omega arith) _
      (list_member_within place (codes "multitap") flicked ms)) _ (flick_member_within place listed ms)) _
      (list_member_within place (codes "sk") own ms)) _ (own_within found (own_key place (object ms)))

  list_within : (place : LayoutPlace) (found : List Key) (d : Data) → AtMost length (length found + size d) (list_onto place found d)
  list_within place found null = tt
  list_within place found (boolean b) = tt
  list_within place found (number n) = tt
  list_within place found (string s) = tt
  list_within place found (array ds) =
      AtMost-raise length (length found + items_size ds) (length found + suc (items_size ds)) (omega arith) _ (items_within place found ds)
  list_within place found (object ms) = tt

  items_within : (place : LayoutPlace) (found : List Key) (ds : Items) → AtMost length (length found + items_size ds) (items_onto place found ds)
  items_within place found no_items = omega arith
  items_within place found (item d ds) =
      AtMost-and_then length length (length found + size d) (length found + (size d + items_size ds)) _
      (λ more few. AtMost-raise length (length more + items_size ds) (length found + (size d + items_size ds)) (omega arith) _ (items_within place more ds))
      _ (key_within place found d)

  directions_within : (place : LayoutPlace) (found : List Key) (d : Data) → AtMost length (length found + size d) (directions_onto place found d)
  directions_within place found null = tt
  directions_within place found (boolean b) = tt
  directions_within place found (number n) = tt
  directions_within place found (string s) = tt
  directions_within place found (array ds) = tt
  directions_within place found (object ms) =
      let all = directions_once ms in
      let start : length found ≤ length found = omega arith in
      AtMost-raise length (length found + sizes_at directions ms) (length found + suc (members_size ms)) (omega arith) _
      (folded_within ms (λ name found. key_member place name found ms) (λ name found. key_member_within place name found ms) directions (Some found) (length found) start)

  list_member_within : (place : LayoutPlace) (name : List ℕ) (found : List Key) (ms : Members)
      → AtMost length (length found + size_at (get_member name ms)) (list_member place name found ms)
  list_member_within place name found no_members = omega arith
  list_member_within place name found (member k d ms) =
      at_name (slice_cmp nat_cmp name k) (length found) d (get_member name ms) (list_member place name found ms) (list_onto place found d)
      (list_member_within place name found ms) (list_within place found d)

  flick_member_within : (place : LayoutPlace) (found : List Key) (ms : Members)
      → AtMost length (length found + size_at (get_member (codes "flick") ms)) (flick_member place found ms)
  flick_member_within place found no_members = omega arith
  flick_member_within place found (member k d ms) =
      at_name (slice_cmp nat_cmp (codes "flick") k) (length found) d (get_member (codes "flick") ms) (flick_member place found ms) (directions_onto place found d)
      (flick_member_within place found ms) (directions_within place found d)

  key_member_within : (place : LayoutPlace) (name : List ℕ) (found : List Key) (ms : Members)
      → AtMost length (length found + size_at (get_member name ms)) (key_member place name found ms)
  key_member_within place name found no_members = omega arith
  key_member_within place name found (member k d ms) =
      at_name (slice_cmp nat_cmp name k) (length found) d (get_member name ms) (key_member place name found ms) (key_onto place found d)
      (key_member_within place name found ms) (key_within place found d)

-- ---- the keys of layers

-- a result, if it is not an error, measures at most n
abbrev Fits : {A F : Type 0} → (A → ℕ) → ℕ → Result A F → Type 0
Fits f n (Err fault) = ⊤
Fits f n (Ok a) = f a ≤ n

Fits-and_then : {A B F : Type 0} (f : A → ℕ) (g : B → ℕ) (m n : ℕ) (h : A → Result B F) → ((a : A) → f a ≤ m → Fits g n (h a))
    → (r : Result A F) → Fits f m r → Fits g n (and_then r h)
Fits-and_then f g m n h each (Err fault) below = tt
Fits-and_then f g m n h each (Ok a) below = each a below

Fits-raise : {A F : Type 0} (f : A → ℕ) (m n : ℕ) → m ≤ n → (r : Result A F) → Fits f m r → Fits f n r
Fits-raise f m n le (Err fault) below = tt
Fits-raise f m n le (Ok a) below = omega arith

Fits-found : {A : Type 0} (f : A → ℕ) (n : ℕ) (place : LayoutPlace) (o : Option A) → AtMost f n o → Fits f n (found_at place o)
Fits-found f n place None below = tt
Fits-found f n place (Some a) below = below

row_within : (platform layer row key : ℕ) (found : List Key) (ds : Items) → Fits length (length found + items_size ds) (row_keys platform layer row key found ds)
row_within platform layer row key found no_items = omega arith
row_within platform layer row key found (item d ds) =
    let place = at_place platform layer row key in
    Fits-and_then length length (length found + size d) (length found + (size d + items_size ds)) _
    (λ more few. Fits-raise length (length more + items_size ds) (length found + (size d + items_size ds)) (omega arith) _ (row_within platform layer row (key + 1) more ds))
    _ (Fits-found length (length found + size d) place (key_onto place found d) (key_within place found d))

array_within : (d : Data) → AtMost items_size (size d) (as_array d)
array_within null = tt
array_within (boolean b) = tt
array_within (number n) = tt
array_within (string s) = tt
array_within (array ds) = omega arith
array_within (object ms) = tt

got_within : (name : List ℕ) (d : Data) → size_at (get name d) ≤ size d
got_within name null = omega arith
got_within name (boolean b) = omega arith
got_within name (number n) = omega arith
got_within name (string s) = omega arith
got_within name (array ds) = omega arith
got_within name (object ms) = let one : size_at (get_member name ms) + 0 ≤ members_size ms = sizes_within (name ∷ []) ms refl in omega arith

listed_within : (o : Option Data) → AtMost items_size (size_at o) (option_and_then as_array o)
listed_within None = tt
listed_within (Some d) = array_within d

in_within : (name : List ℕ) (d : Data) → AtMost items_size (size d) (list_in name d)
in_within name d = AtMost-raise items_size (size_at (get name d)) (size d) (got_within name d) (list_in name d) (listed_within (get name d))

rows_within : (platform layer row : ℕ) (found : List Key) (ds : Items) → Fits length (length found + items_size ds) (layer_rows platform layer row found ds)
rows_within platform layer row found no_items = omega arith
rows_within platform layer row found (item d ds) =
    let most = length found + (size d + items_size ds) in
    let here = Fits-and_then items_size length (size d) (length found + size d) (λ keys. row_keys platform layer row 1 found keys)
    (λ keys few. Fits-raise length (length found + items_size keys) (length found + size d) (omega arith) _ (row_within platform layer row 1 found keys))
    _ (Fits-found items_size (size d) (at_place platform layer row 0) (list_in (codes "key") d) (in_within (codes "key") d)) in
    Fits-and_then length length (length found + size d) most _
    (λ more few. Fits-raise length (length more + items_size ds) most (omega arith) _ (rows_within platform layer (row + 1) more ds)) _ here

abbrev key_total : Layout → ℕ
key_total layout = length layout.keys

layer_within : (platform layer : ℕ) (found : Layout) (d : Data) → Fits key_total (length found.keys + size d) (layer_onto platform layer found d)
layer_within platform layer found d =
    let most = length found.keys + size d in
    Fits-and_then (λ _. 0) key_total 0 most _
    (λ id none. Fits-and_then items_size key_total (size d) most _
    (λ rows few. Fits-and_then length key_total (length found.keys + items_size rows) most _ (λ keys within. omega arith) _ (rows_within platform layer 1 found.keys rows))
    _ (Fits-found items_size (size d) (at_place platform layer 0 0) (list_in (codes "row") d) (in_within (codes "row") d)))
    _ (Fits-found (λ _. 0) 0 (at_place platform layer 0 0) (text_in (codes "id") d) (AtMost-zero (text_in (codes "id") d)))

layers_within : (platform layer : ℕ) (found : Layout) (ds : Items) → Fits key_total (length found.keys + items_size ds) (platform_layers platform layer found ds)
layers_within platform layer found no_items = omega arith
layers_within platform layer found (item d ds) =
    let most = length found.keys + (size d + items_size ds) in
    Fits-and_then key_total key_total (length found.keys + size d) most _
    (λ more few. Fits-raise key_total (length more.keys + items_size ds) most (omega arith) _ (layers_within platform (layer + 1) more ds)) _ (layer_within platform layer found d)

platform_within : (platform : ℕ) (found : Layout) (o : Option Data) → Fits key_total (length found.keys + size_at o) (platform_onto platform found o)
platform_within platform found None = omega arith
platform_within platform found (Some d) =
    let most = length found.keys + size d in
    Fits-and_then items_size key_total (size d) most _
    (λ layers few. Fits-raise key_total (length found.keys + items_size layers) most (omega arith) _ (layers_within platform 1 found layers))
    _ (Fits-found items_size (size d) (at_place platform 0 0 0) (list_in (codes "layer") d) (in_within (codes "layer") d))

platforms_once : (ms : Members)
    → size_at (get_member (codes "phone") ms) + (size_at (get_member (codes "tablet") ms) + (size_at (get_member (codes "desktop") ms) + 0)) ≤ members_size ms
platforms_once ms = sizes_within (codes "phone" ∷ codes "tablet" ∷ codes "desktop" ∷ []) ms refl

layout_within : (root : Data) → Fits key_total (size root) (layout_of root)
layout_within null = tt
layout_within (boolean b) = tt
layout_within (number n) = tt
layout_within (string s) = tt
layout_within (array ds) = tt
layout_within (object ms) =
    let all = platforms_once ms in
    let first = size_at (get_member (codes "phone") ms) in
    let second = size_at (get_member (codes "tablet") ms) in
    Fits-and_then key_total key_total (first + second) (suc (members_size ms)) _
    (λ tablet few. Fits-raise key_total (length tablet.keys + size_at (get_member (codes "desktop") ms)) (suc (members_size ms)) (omega arith) _
    (platform_within 3 tablet (get_member (codes "desktop") ms)))
    _ (Fits-and_then key_total key_total (0 + first) (first + second) _
    (λ phone few. Fits-raise key_total (length phone.keys + second) (first + second) (omega arith) _ (platform_within 2 phone (get_member (codes "tablet") ms)))
    _ (platform_within 1 no_layout (get_member (codes "phone") ms)))

-- ---- the keys of bytes

shaped_within : (r : Result Layout LayoutPlace) (n : ℕ) → Fits key_total n r → count_of (shaped_layout r) ≤ n
shaped_within (Err place) n below = omega arith
shaped_within (Ok layout) n below = below

value_within : (is_text : Bool) (text : List ℕ) (d : Data) → (if is_text then read text else None) ≡ Some d → size d ≤ suc (length text)
value_within true text d is = read_within text d is
value_within false text d is = absurd (cc)

pub few_keys : (text : List ℕ) (value : Option Value) (root : Value) → option_map view value ≡ value_of text → value ≡ Some root
    → count_of (read_layout (Some (view root))) ≤ suc (length text)
few_keys text value root was is =
    let read_root = sym (subst (λ v. option_map view v ≡ value_of text) is was) in
    let values = value_within (is_utf8 text) text (view root) read_root in
    let keys = shaped_within (layout_of (view root)) (size (view root)) (layout_within (view root)) in
    omega arith
