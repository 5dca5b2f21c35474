-- Keys with distinct texts: how an inserted key changes the texts, and the index of a text.
use Rattle.std.proofs.Common.{◌≡◌, ℕ, Bool, true, false, List, [], ◌∷◌, ◌++◌, map, refl, sym, ap, ◌∙◌, if◌then◌else◌}
use Rattle.std.specs.Prelude.{position, ◌||◌}
use Rattle.std.specs.List.{list_any}
use Rattle.std.specs.Str.{bytes_eq}
use Rattle.std.specs.Cmp.Lexicographic.{nat_list_eq_equiv}
use Rattle.std.proofs.lemmas.List.{map-append}
use Rattle.indexmap.specs.IndexSet.{insert_key}
use Rattle.virtual_keys.proofs.PositionLemmas.{position-map}
use Rattle.rule_model.specs.Tab.{distinct_onto}

same_either_way : (a b : List ℕ) → bytes_eq a b ≡ bytes_eq b a
same_either_way a b = nat_list_eq_equiv.symm a b

module _ {K : Type 0} (text : K → List ℕ) where
  any_text : (keys : List K) (x : List ℕ) → list_any (λ k. bytes_eq x (text k)) keys ≡ list_any (λ y. bytes_eq y x) (map text keys)
  any_text [] x = refl
  any_text (k ∷ keys) x = λ j. same_either_way x (text k) j || any_text keys x j

  put_behind : (known : Bool) (keys : List K) (key : K) → map text (if known then keys else keys ++ key ∷ []) ≡ (if known then map text keys else map text keys ++ text key ∷ [])
  put_behind true keys key = refl
  put_behind false keys key = map-append text keys (key ∷ [])

  -- inserting a key appends its text to the texts if it is new
  pub inserted : (keys : List K) (key : K) → map text (insert_key (λ a b. bytes_eq (text a) (text b)) keys key) ≡ distinct_onto bytes_eq (map text keys) (text key ∷ [])
  inserted keys key =
      put_behind (list_any (λ k. bytes_eq (text key) (text k)) keys) keys key
      ∙ ap (λ known. if known then map text keys else map text keys ++ text key ∷ []) (any_text keys (text key))

  -- the index of a text
  pub place_by_text : (keys : List K) (x : List ℕ) → position (λ k. bytes_eq x (text k)) keys ≡ position (λ known. bytes_eq known x) (map text keys)
  place_by_text keys x =
      (λ j. position (λ k. same_either_way x (text k) j) keys) ∙ sym (position-map text (λ known. bytes_eq known x) keys)
