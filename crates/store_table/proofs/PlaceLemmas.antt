-- The entries of a table of names: the index of a name, and how a name is appended.
use Rattle.std.proofs.Common.{◌≡◌, ℕ, ◌+◌, ◌<◌, ◌≤◌, Bool, true, false, not, cond, eqb, nat_lt, List, [], ◌∷◌, ◌++◌, length, length-append, Option, Some, None, Vec, refl, sym, ap, subst, get_or, ◌∙◌, true≢false, arith}
use Rattle.std.proofs.lemmas.Bool.Decides.{nat_tests}
use Rattle.std.proofs.lemmas.List.{map-append, length-map}
use Rattle.std.proofs.lemmas.List.Folds.{position_or_len_push}
use Rattle.std.proofs.lemmas.List.Sums.{prefix_len-le-length}
use Rattle.std.proofs.lemmas.Slice.Eq.{bytes_eq-Decides}
use Rattle.std.specs.List.{position, position_or_len}
use Rattle.std.specs.Map.{lookup}
use Rattle.std.specs.Str.{str_to_ascii_lowercase, bytes_eq}
use Rattle.std.specs.Prelude.{IsSome}
use Rattle.indexmap.specs.IndexMap.{insert_entry}
use Rattle.kmn_base.specs.Names.{same_name}
use Rattle.virtual_keys.specs.Dictionary.{place_in}
use Rattle.store_table.specs.Places.{written, ArePlaces}
use Rattle.std.proofs.Common.{suc, drop}
use Rattle.std.specs.Prelude.{option_map}
use Rattle.std.specs.Option.{option_or}
use Rattle.std.proofs.lemmas.List.{drop_more}
use Rattle.virtual_keys.proofs.NamePlaces.{position_cons}

-- an optional index, counted from n
abbrev pub place_behind : ℕ → Option ℕ → Option ℕ
place_behind n None = None
place_behind n (Some place) = Some (n + place)

pushed : (a b n m : ℕ) (passes : Bool) → a ≤ n → b ≡ cond (eqb a n) (n + cond passes 0 1) a → m ≡ n + 1
    → cond (nat_lt b m) (Some b) None ≡ option_or (cond (nat_lt a n) (Some a) None) (cond passes (Some n) None)
pushed a b n m passes near here more = grind (arith, nat_tests)

-- the index in a list with another item
pub position_push : {X : Type 0} (p : X → Bool) (xs : List X) (y : X) → position p (xs ++ y ∷ []) ≡ option_or (position p xs) (cond (p y) (Some (length xs)) None)
position_push p xs y =
    pushed (position_or_len p xs) (position_or_len p (xs ++ y ∷ [])) (length xs) (length (xs ++ y ∷ [])) (p y)
    (prefix_len-le-length (λ x. not (p x)) xs) (position_or_len_push p xs y) (length-append xs (y ∷ []))

found_later : {V : Type 0} (here : Bool) (v : V) (all some more : Option V) → all ≡ option_or some more → cond here (Some v) all ≡ option_or (cond here (Some v) some) more
found_later true v all some more h = refl
found_later false v all some more h = h

-- a look-up among entries with another entry
pub lookup_push : {K V : Type 0} (test : K → Bool) (es : List (K × V)) (k : K) (v : V) → lookup test (es ++ (k, v) ∷ []) ≡ option_or (lookup test es) (cond (test k) (Some v) None)
lookup_push test [] k v = refl
lookup_push test (e ∷ es) k v = found_later (test e.0) e.1 _ _ _ (lookup_push test es k v)

pub written_push : {A : Type 0} (names : List (Vec ℕ A)) (name : Vec ℕ A) → written (names ++ name ∷ []) ≡ written names ++ name.items ∷ []
written_push names name = map-append (λ n. n.items) names (name ∷ [])

no_some : IsSome {T = ℕ} None → ⊥
no_some h = true≢false (sym h)

module _ {A : Type 0} (names : List (List ℕ)) (entries : List (Vec ℕ A × ℕ)) (name : List ℕ) (are : ArePlaces names entries) where
  abbrev among : List ℕ → List ℕ → Bool
  among query known = bytes_eq query (str_to_ascii_lowercase known)

  -- the index of a name is found by the name in lower case
  pub place_found : lookup (λ key. bytes_eq (str_to_ascii_lowercase name) key.items) entries ≡ place_in names name
  unfolding same_name
  place_found = are.found (str_to_ascii_lowercase name)

  -- the entries after a new name is appended
  pub new_are_places : (key : Vec ℕ A) → key.items ≡ str_to_ascii_lowercase name → ArePlaces (names ++ name ∷ []) (entries ++ (key, length names) ∷ [])
  new_are_places key folded = record {
    found = λ query.
        lookup_push (λ k. bytes_eq query k.items) entries key (length names)
        ∙ (λ j. option_or (are.found query j) (cond (bytes_eq query (folded j)) (Some (length names)) None))
        ∙ sym (position_push (among query) names name);
  }

  -- the entries after a known name is appended
  pub again_are_places : IsSome (place_in names name) → ArePlaces (names ++ name ∷ []) entries
  unfolding same_name
  again_are_places stands = record {
    found = λ query. are.found query ∙ sym (position_push (among query) names name ∙ by query (position (among query) names) refl (among query name) refl);
  }
    where
      by : (query : List ℕ) (o : Option ℕ) → position (among query) names ≡ o → (b : Bool) → among query name ≡ b
          → option_or (position (among query) names) (cond (among query name) (Some (length names)) None) ≡ position (among query) names
      by query (Some k) is b test = rw is refl
      by query None is false test = rw (is, test) refl
      by query None is true test =
          let same : query ≡ str_to_ascii_lowercase name = (bytes_eq-Decides query (str_to_ascii_lowercase name)).0 test in
          absurd (no_some (subst IsSome (ap (λ (q : List ℕ). position (among q) names) (sym same) ∙ is) stands))

not_here : {V X : Type 0} (here : Bool) (v : V) (rest : Option V) (xs ys zs : X) → cond here (Some v) rest ≡ None → (rest ≡ None → ys ≡ zs) → cond here xs ys ≡ zs
not_here true v rest xs ys zs none h = absurd (cc)
not_here false v rest xs ys zs none h = h none

-- a new key is inserted last
insert_last : {A : Type 0} (entries : List (Vec ℕ A × ℕ)) (key : Vec ℕ A) (place : ℕ) → lookup (λ k. bytes_eq key.items k.items) entries ≡ None
    → insert_entry (λ a b. bytes_eq a.items b.items) entries key place ≡ entries ++ (key, place) ∷ []
insert_last [] key place none = refl
insert_last (e ∷ entries) key place none = not_here (bytes_eq key.items e.0.items) e.1 (lookup (λ k. bytes_eq key.items k.items) entries) _ _ _ none (λ h. ap (λ es. e ∷ es) (insert_last entries key place h))

-- the entries after a new name is inserted into the map
pub new_entries : {A : Type 0} (names : List (Vec ℕ A)) (entries : List (Vec ℕ A × ℕ)) (name key : Vec ℕ A) (now : List (Vec ℕ A)) (put : List (Vec ℕ A × ℕ)) (place : ℕ)
    → ArePlaces (written names) entries → place_in (written names) name.items ≡ None → place ≡ length names → key.items ≡ str_to_ascii_lowercase name.items
    → now ≡ names ++ name ∷ [] → put ≡ insert_entry (λ a b. bytes_eq a.items b.items) entries key place → ArePlaces (written now) put
unfolding same_name
new_entries names entries name key now put place are new counted folded pushed inserted =
    let absent : lookup (λ k. bytes_eq key.items k.items) entries ≡ None = ap (λ query. lookup (λ k. bytes_eq query k.items) entries) folded ∙ place_found (written names) entries name.items are ∙ new in
    let last : insert_entry (λ a b. bytes_eq a.items b.items) entries key place ≡ entries ++ (key, place) ∷ [] = insert_last entries key place absent in
    let whole : ArePlaces (written names ++ name.items ∷ []) (entries ++ (key, length (written names)) ∷ []) = new_are_places (written names) entries name.items are key folded in
    let count : length (written names) ≡ place = length-map names (λ n. n.items) ∙ sym counted in
    subst (λ ns. ArePlaces ns put) (sym (ap written pushed ∙ written_push names name))
    (subst (ArePlaces (written names ++ name.items ∷ [])) (ap (λ n. entries ++ (key, n) ∷ []) count ∙ sym last ∙ sym inserted) whole)

pub place_from_start : (o : Option ℕ) → place_behind 0 o ≡ o
place_from_start None = refl
place_from_start (Some n) = let e : 0 + n ≡ n = omega arith in ap Some e

one_behind : (here : Bool) (n : ℕ) (o : Option ℕ) → place_behind n (cond here (Some 0) (option_map suc o)) ≡ cond here (Some n) (place_behind (n + 1) o)
one_behind true n o = let e : n + 0 ≡ n = omega arith in ap Some e
one_behind false n None = refl
one_behind false n (Some m) = let e : n + suc m ≡ n + 1 + m = omega arith in ap Some e

pub place_next : {A : Type 0} (names : List (Vec ℕ A)) (i : ℕ) (known : Vec ℕ A) (name : List ℕ) → i < length names → known ≡ get_or names i known
    → place_behind i (place_in (written (drop i names)) name) ≡ cond (same_name name known.items) (Some i) (place_behind (i + 1) (place_in (written (drop (i + 1) names)) name))
place_next names i known name h e =
    ap (λ ks. place_behind i (place_in (written ks) name)) (drop_more names i known h ∙ ap (λ k. k ∷ drop (i + 1) names) (sym e))
    ∙ ap (place_behind i) (position_cons (same_name name) known.items (written (drop (i + 1) names)))
    ∙ one_behind (same_name name known.items) i (place_in (written (drop (i + 1) names)) name)
