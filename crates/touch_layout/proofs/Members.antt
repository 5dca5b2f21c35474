-- Looking a member up results in the same keys as iterating over the members.
use Rattle.std.proofs.Common.{◌≡◌, ℕ, zero, suc, ◌≤◌, ◌<◌, max, List, [], ◌∷◌, codes, Option, Some, None, option_and_then, is_some, if◌then◌else◌, Ordering, Less, Equal, Greater, refl, sym, subst, arith, nat_cmp, length, get_or, slice_index_or, fold, ap, ◌∙◌}
use Rattle.std.specs.Prelude.{⊤}
use Rattle.std.proofs.Math.Nat.{le-max_left, le-max_right}
use Rattle.std.specs.Ordering.{match_ordering}
use Rattle.std.specs.Cmp.Lexicographic.{slice_cmp}
use Rattle.serde_json.specs.Data.{Data, null, boolean, number, string, array, object, Items, Members, no_members, member, depth, items_depth, members_depth}
use Rattle.serde_json.specs.View.{view, items_view}
use Rattle.serde_json.specs.declared.value.Value.{Value}
use Rattle.serde_json.specs.Find.{get, get_member, as_object, as_array}
use Rattle.touch_layout.specs.declared.faults.LayoutPlace.{LayoutPlace}
use Rattle.touch_layout.specs.Keys.{Key, own_onto, key_onto, list_onto, items_onto, directions_onto, list_member, flick_member, key_member, list_at, flick_at, key_at, names_onto, directions}

-- if iterating over the other members results in f of their look-up, so does iterating over a member and the others
at_name : {R : Type 0} (o : Ordering) (f : Option Data → R) (d : Data) (rest : R) (more : Option Data) → rest ≡ f more
    → match_ordering o rest (f (Some d)) rest ≡ f (match_ordering o more (Some d) more)
at_name Less f d rest more same = same
at_name Equal f d rest more same = refl
at_name Greater f d rest more same = same

pub list_found : (place : LayoutPlace) (name : List ℕ) (found : List Key) (ms : Members) → list_member place name found ms ≡ list_at place found (get_member name ms)
list_found place name found no_members = refl
list_found place name found (member k d ms) = at_name (slice_cmp nat_cmp name k) (list_at place found) d _ (get_member name ms) (list_found place name found ms)

pub flick_found : (place : LayoutPlace) (found : List Key) (ms : Members) → flick_member place found ms ≡ flick_at place found (get_member (codes "flick") ms)
flick_found place found no_members = refl
flick_found place found (member k d ms) = at_name (slice_cmp nat_cmp (codes "flick") k) (flick_at place found) d _ (get_member (codes "flick") ms) (flick_found place found ms)

pub direction_found : (place : LayoutPlace) (name : List ℕ) (found : List Key) (ms : Members) → key_member place name found ms ≡ key_at place found (get_member name ms)
direction_found place name found no_members = refl
direction_found place name found (member k d ms) = at_name (slice_cmp nat_cmp name k) (key_at place found) d _ (get_member name ms) (direction_found place name found ms)

-- if two chains of steps are equal step by step, their results are equal
chained : {A B : Type 0} (f g : A → Option B) (a b : Option A) → a ≡ b → ((x : A) → f x ≡ g x) → option_and_then f a ≡ option_and_then g b
chained f g None b same each = subst (λ r. None ≡ option_and_then g r) same refl
chained f g (Some x) b same each = subst (λ r. f x ≡ option_and_then g r) same (each x)

-- the keys of an object, by look-ups of its members
abbrev pub by_look_up : LayoutPlace → List Key → Data → Option (List Key)
by_look_up place found d =
    option_and_then (λ found. option_and_then (λ found. option_and_then (λ found. list_at place found (get (codes "multitap") d))
    (flick_at place found (get (codes "flick") d))) (list_at place found (get (codes "sk") d))) (own_onto place found d)

pub key_step : (place : LayoutPlace) (found : List Key) (d : Data) → key_onto place found d ≡ (if is_some (as_object d) then by_look_up place found d else None)
key_step place found null = refl
key_step place found (boolean b) = refl
key_step place found (number n) = refl
key_step place found (string s) = refl
key_step place found (array ds) = refl
key_step place found (object ms) =
    chained _ _ _ _ refl (λ own. chained _ _ _ _ (list_found place (codes "sk") own ms) (λ subs.
    chained _ _ _ _ (flick_found place subs ms) (λ flicks. list_found place (codes "multitap") flicks ms)))

abbrev pub items_at : LayoutPlace → List Key → Option Items → Option (List Key)
items_at place found None = None
items_at place found (Some ds) = items_onto place found ds

pub list_step : (place : LayoutPlace) (found : List Key) (d : Data) → list_onto place found d ≡ items_at place found (as_array d)
list_step place found null = refl
list_step place found (boolean b) = refl
list_step place found (number n) = refl
list_step place found (string s) = refl
list_step place found (array ds) = refl
list_step place found (object ms) = refl

folded : (place : LayoutPlace) (ms : Members) (names : List (List ℕ)) (sofar : Option (List Key))
    → fold (λ sofar name. option_and_then (λ found. key_member place name found ms) sofar) sofar names
    ≡ option_and_then (λ found. names_onto place (object ms) names found) sofar
folded place ms [] None = refl
folded place ms [] (Some found) = refl
folded place ms (name ∷ names) None = folded place ms names None
folded place ms (name ∷ names) (Some found) =
    folded place ms names (key_member place name found ms)
    ∙ ap (option_and_then (λ found. names_onto place (object ms) names found)) (direction_found place name found ms)

pub flick_step : (place : LayoutPlace) (found : List Key) (d : Data)
    → directions_onto place found d ≡ (if is_some (as_object d) then names_onto place d directions found else None)
flick_step place found null = refl
flick_step place found (boolean b) = refl
flick_step place found (number n) = refl
flick_step place found (string s) = refl
flick_step place found (array ds) = refl
flick_step place found (object ms) = folded place ms directions (Some found)

is_none : {A : Type 0} → Option A → Type 0
is_none None = ⊤
is_none (Some x) = ⊥

-- the nesting depth of the result of a look-up
abbrev pub depth_at : Option Data → ℕ
depth_at None = 0
depth_at (Some d) = depth d

at_most : (o : Ordering) (d : Data) (more : Option Data) (deep : ℕ) → depth_at more ≤ deep
    → depth_at (match_ordering o more (Some d) more) ≤ max (depth d) deep
at_most Less d more deep below = let e = le-max_right (depth d) deep in omega arith
at_most Equal d more deep below = le-max_left (depth d) deep
at_most Greater d more deep below = let e = le-max_right (depth d) deep in omega arith

pub member_depth : (name : List ℕ) (ms : Members) → depth_at (get_member name ms) ≤ members_depth ms
member_depth name no_members = omega arith
member_depth name (member k d ms) = at_most (slice_cmp nat_cmp name k) d _ _ (member_depth name ms)

none≢some : {A : Type 0} {x : A} → None ≡ Some x → ⊥
unfolding is_none
none≢some e = subst is_none e tt

abbrev items_depth_at : Option Items → ℕ
items_depth_at None = 0
items_depth_at (Some ds) = items_depth ds

within : (d : Data) (o : Option Data) (n : ℕ) → depth_at o < n → o ≡ Some d → depth d < n
within d o n below is = subst (λ r. depth_at r < n) is below

pub get_depth : (name : List ℕ) (d e : Data) → get name d ≡ Some e → depth e < depth d
get_depth name null e is = absurd (none≢some is)
get_depth name (boolean b) e is = absurd (none≢some is)
get_depth name (number n) e is = absurd (none≢some is)
get_depth name (string s) e is = absurd (none≢some is)
get_depth name (array ds) e is = absurd (none≢some is)
get_depth name (object ms) e is = let most = member_depth name ms in within e (get_member name ms) _ (omega arith) is

pub item_depth : (vs : List Value) (i : ℕ) (d : Value) → i < length vs → depth (view (get_or vs i d)) ≤ items_depth (items_view vs)
item_depth [] i d h = absurd (omega arith)
item_depth (v ∷ vs) zero d h = le-max_left _ _
item_depth (v ∷ vs) (suc i) d h = let rest = item_depth vs i d (omega arith) in let e = le-max_right (depth (view v)) (items_depth (items_view vs)) in omega arith

within_items : (ds : Items) (o : Option Items) (n : ℕ) → items_depth_at o < n → o ≡ Some ds → items_depth ds < n
within_items ds o n below is = subst (λ r. items_depth_at r < n) is below

array_depth : (d : Data) (ds : Items) → as_array d ≡ Some ds → items_depth ds < depth d
array_depth null ds is = absurd (none≢some is)
array_depth (boolean b) ds is = absurd (none≢some is)
array_depth (number n) ds is = absurd (none≢some is)
array_depth (string s) ds is = absurd (none≢some is)
array_depth (object ms) ds is = absurd (none≢some is)
array_depth (array es) ds is = within_items ds (Some es) _ (omega arith) is

-- if a value is a list, each of its items nests less deeply than the value
pub listed_depth : (list : Data) (items vs : List Value) (i : ℕ) (x : Value) → Some (items_view items) ≡ as_array list → vs ≡ items
    → i < length vs → x ≡ slice_index_or vs i x → depth (view x) < depth list
listed_depth list items vs i x is same inside held =
    let lower = subst (λ y. depth (view y) ≤ items_depth (items_view vs)) (sym held) (item_depth vs i x inside) in
    let upper = array_depth list (items_view vs) (subst (λ ys. as_array list ≡ Some (items_view ys)) (sym same) (sym is)) in
    omega arith
