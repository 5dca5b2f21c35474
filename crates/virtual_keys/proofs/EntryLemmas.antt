-- The entries of a dictionary: the position of a name, and how a new name is stored.
use Rattle.std.proofs.Common.{◌≡◌, ℕ, ◌<◌, Bool, false, List, [], ◌∷◌, ◌++◌, map, length, Some, None, Vec, refl, sym, ap, subst, length-append, get_or, if◌then◌else◌, ◌∙◌, arith}
use Rattle.std.proofs.lemmas.List.{map-append, length-map}
use Rattle.std.proofs.lemmas.List.Elements.{All-head, All-tail, All-push}
use Rattle.std.proofs.lemmas.List.Quantifiers.{all_pairs_push}
use Rattle.std.proofs.lemmas.Iterator.{YieldsList}
use Rattle.std.proofs.lemmas.Iterator.Consumers.{YieldsList-from_shown}
use Rattle.std.specs.List.{All, position}
use Rattle.std.specs.Map.{keys_of, values_of}
use Rattle.std.specs.Map.Iter.{TakesFirst, deref}
use Rattle.std.specs.Str.{str_to_ascii_lowercase, bytes_eq}
use Rattle.indexmap.specs.IndexMap.{insert_entry}
use Rattle.kmn_base.specs.Names.{same_name}
use Rattle.virtual_keys.specs.Dictionary.{place_in, AreDistinct}
use Rattle.virtual_keys.specs.Entries.{written, AreEntries}
use Rattle.virtual_keys.proofs.NamePlaces.{same_name-self}
use Rattle.virtual_keys.proofs.PositionLemmas.{position-map, position-same, none_passes, position-push}

module _ {A : Type 0} where
  -- a name in lower case is found among the keys exactly where the name is found among the names
  pub folded_place : (name : List ℕ) (entries : List (Vec ℕ A × Vec ℕ A)) → AreEntries entries
      → position (λ key. bytes_eq (str_to_ascii_lowercase name) key.items) (keys_of entries) ≡ place_in (written entries) name
  unfolding same_name
  folded_place name entries are =
      position-map (λ e. e.0) (λ key. bytes_eq (str_to_ascii_lowercase name) key.items) entries
      ∙ position-same _ (λ e. same_name name e.1.items) entries (λ k d l. ap (bytes_eq (str_to_ascii_lowercase name)) (are.folded k d l))
      ∙ sym (position-map (λ e. e.1.items) (same_name name) entries)

  -- the written names are the names of the values
  pub written-values : (entries : List (Vec ℕ A × Vec ℕ A)) → map (λ value. value.items) (values_of entries) ≡ written entries
  written-values [] = refl
  written-values (e ∷ entries) = ap (λ names. e.1.items ∷ names) (written-values entries)

  pub length-written : (entries : List (Vec ℕ A × Vec ℕ A)) → length (written entries) ≡ length entries
  length-written entries = length-map entries (λ e. e.1.items)

  -- the values of a map are in its order
  pub YieldsList-values : (values : List (Vec ℕ A)) → YieldsList (TakesFirst deref) (λ value. value.now.items) values (map (λ value. value.items) values)
  YieldsList-values = YieldsList-from_shown (TakesFirst deref) (λ value. value.now.items) (map (λ value. value.items))
      (λ s t k. ap (λ left. length (map (λ value. value.items) left)) k.0) (λ s x t k. ap (map (λ value. value.items)) k)

-- an entry with a new key is appended
insert_entry-last : {K V : Type 0} (eq : K → K → Bool) (entries : List (K × V)) (key : K) (value : V) → All (λ e. eq key e.0 ≡ false) entries → insert_entry eq entries key value ≡ entries ++ (key, value) ∷ []
insert_entry-last eq [] key value others = refl
insert_entry-last eq (e ∷ entries) key value others =
    let here = All-head (λ e. eq key e.0 ≡ false) e entries others in
    let rest = insert_entry-last eq entries key value (All-tail (λ e. eq key e.0 ≡ false) e entries others) in
    λ j. if here j then (e.0, value) ∷ entries else e ∷ rest j

-- the entries of a map with these names after a new name is added
module _ {A : Type 0} (entries : List (Vec ℕ A × Vec ℕ A)) (names : List (List ℕ)) (name : List ℕ) (key value : Vec ℕ A) (are : AreEntries entries)
    (are_names : written entries ≡ names) (new : place_in names name ≡ None) (folded : key.items ≡ str_to_ascii_lowercase name) (kept : value.items ≡ name) where
  appended : insert_entry (λ a b. bytes_eq a.items b.items) entries key value ≡ entries ++ (key, value) ∷ []
  appended =
      let absent = sym (position-map (λ e. e.0) (λ k. bytes_eq (str_to_ascii_lowercase name) k.items) entries)
      ∙ folded_place name entries are ∙ ap (λ known. place_in known name) are_names ∙ new in
      let others = none_passes _ entries absent in
      insert_entry-last _ entries key value (λ k d l. ap (λ query. bytes_eq query (get_or entries k d).0.items) folded ∙ others k d l)

  pub appended-names : written (insert_entry (λ a b. bytes_eq a.items b.items) entries key value) ≡ names ++ name ∷ []
  appended-names = ap written appended ∙ map-append (λ e. e.1.items) entries ((key, value) ∷ []) ∙ (λ j. are_names j ++ kept j ∷ [])

  pub appended-are : length names < 65280 → AreEntries (insert_entry (λ a b. bytes_eq a.items b.items) entries key value)
  appended-are room = subst AreEntries (sym appended) (record {
    folded = All-push (λ e. e.0.items ≡ str_to_ascii_lowercase e.1.items) entries (key, value) are.folded (folded ∙ ap str_to_ascii_lowercase (sym kept));
    distinct = subst AreDistinct (sym (ap written (sym appended) ∙ appended-names)) (all_pairs_push (λ earlier later. same_name later earlier ≡ false) names name (subst AreDistinct are_names are.distinct) (none_passes (same_name name) names new));
    few = omega (arith, length-written entries, ap length are_names, length-append entries ((key, value) ∷ []));
  })

  pub appended-place : place_in (written (insert_entry (λ a b. bytes_eq a.items b.items) entries key value)) name ≡ Some (length entries)
  appended-place =
      ap (λ known. place_in known name) appended-names ∙ position-push (same_name name) names name new (same_name-self name)
      ∙ ap Some (ap length (sym are_names) ∙ length-written entries)
