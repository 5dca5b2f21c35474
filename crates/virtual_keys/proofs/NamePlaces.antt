-- The first position of a name in a list of names, a list with a name added, and the name of a code.
use Rattle.std.proofs.Common.{◌≡◌, ℕ, zero, suc, ◌+◌, ◌-◌, ◌≤◌, Bool, true, false, not, cond, ltb, List, [], ◌∷◌, ◌++◌, length, Option, Some, None, refl, sym, ap, ◌∙◌, arith, is_some, if◌then◌else◌}
use Rattle.std.specs.Prelude.{position, option_map, slice_get, nat_lt, ◌||◌}
use Rattle.std.specs.List.{position_or_len, list_any}
use Rattle.std.specs.Str.{str_to_ascii_lowercase}
use Rattle.std.specs.Cmp.Lexicographic.{nat_list_eq_equiv}
use Rattle.std.proofs.lemmas.Bool.Decides.{nat_tests}
use Rattle.std.proofs.lemmas.Option.{none-some}
use Rattle.std.proofs.lemmas.Slice.Eq.{bytes_eq-Decides}
use Rattle.kmn_base.specs.Names.{same_name}
use Rattle.virtual_keys.specs.Dictionary.{with_name, name_in}

from_zero : (l : ℕ) → cond {A = Option ℕ} (ltb 0 (suc l)) (Some 0) None ≡ Some 0
from_zero l = grind (arith, nat_tests)

later : (m l : ℕ) → cond {A = Option ℕ} (ltb (1 + m) (suc l)) (Some (1 + m)) None ≡ option_map suc (cond (ltb m l) (Some m) None)
later m l = grind (arith, nat_tests)

step : (b : Bool) (m l : ℕ) → cond (ltb (cond (not b) (1 + m) 0) (suc l)) (Some (cond (not b) (1 + m) 0)) None ≡ cond b (Some 0) (option_map suc (cond (ltb m l) (Some m) None))
step true m l = from_zero l
step false m l = later m l

-- the first position, by recursion
pub position_cons : {X : Type 0} (p : X → Bool) (x : X) (xs : List X) → position p (x ∷ xs) ≡ cond (p x) (Some 0) (option_map suc (position p xs))
position_cons p x xs = step (p x) (position_or_len p xs) (length xs)

some_here : (here : Bool) (rest : Option ℕ) (any : Bool) → is_some rest ≡ any → is_some (cond here (Some 0) (option_map suc rest)) ≡ (here || any)
some_here true rest any h = refl
some_here false None any h = h
some_here false (Some n) any h = h

-- there is a first position if some item passes
pub some_place : {X : Type 0} (p : X → Bool) (xs : List X) → is_some (position p xs) ≡ list_any p xs
some_place p [] = refl
some_place p (x ∷ xs) = ap is_some (position_cons p x xs) ∙ some_here (p x) (position p xs) (list_any p xs) (some_place p xs)

pub same_either_way : (a b : List ℕ) → same_name a b ≡ same_name b a
unfolding same_name
same_either_way a b = nat_list_eq_equiv.symm (str_to_ascii_lowercase a) (str_to_ascii_lowercase b)

pub any_name : (name : List ℕ) (names : List (List ℕ)) → list_any (same_name name) names ≡ list_any (λ known. same_name known name) names
any_name name [] = refl
any_name name (known ∷ names) = λ j. same_either_way name known j || any_name name names j

-- a name is appended if it is not in the list
pub with_name_new : (names : List (List ℕ)) (name : List ℕ) → with_name names name ≡ (if list_any (λ known. same_name known name) names then names else names ++ name ∷ [])
with_name_new names name =
    ap (λ known. if known then names else names ++ name ∷ []) (some_place (same_name name) names ∙ any_name name names)

-- a name is the same as itself
pub same_name-self : (name : List ℕ) → same_name name name ≡ true
unfolding same_name
same_name-self name = (bytes_eq-Decides (str_to_ascii_lowercase name) (str_to_ascii_lowercase name)).1 refl

-- a position without an item is past the end
pub past : {X : Type 0} (xs : List X) (i : ℕ) → slice_get xs i ≡ None → length xs ≤ i
past [] i e = omega arith
past (x ∷ xs) zero e = absurd (none-some x (sym e))
past (x ∷ xs) (suc i) e =
    let h : length xs ≤ i = past xs i e in
    omega arith

name_read_as : (place : ℕ) (names : List (List ℕ)) (low : Bool) → nat_lt (256 + place) 256 ≡ low → (if low then None else slice_get names ((256 + place) - 256)) ≡ slice_get names place
name_read_as place names true e = absurd (grind (arith, nat_tests))
name_read_as place names false e =
    let same : (256 + place) - 256 ≡ place = omega arith in
    ap (slice_get names) same

-- the name of a code is the name at the position that the code denotes
pub name_read : (names : List (List ℕ)) (place : ℕ) → name_in names (256 + place) ≡ slice_get names place
name_read names place = name_read_as place names (nat_lt (256 + place) 256) refl
