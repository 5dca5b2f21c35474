-- A value is among the keys of a table if and only if it is among its values.
use Rattle.std.proofs.Common.{◌≡◌, ℕ, false, List, [], ◌∷◌, ◌++◌, map, Vec, refl, ap, ◌∙◌, if◌then◌else◌}
use Rattle.std.specs.Prelude.{◌||◌}
use Rattle.std.specs.List.{list_any}
use Rattle.std.specs.Str.{bytes_eq}
use Rattle.std.specs.Cmp.Lexicographic.{nat_list_eq_equiv}
use Rattle.std.proofs.lemmas.List.{map-append}
use Rattle.indexmap.specs.IndexSet.{insert_key}
use Rattle.rule_checker.specs.Walking.{is_value}

module _ {A : Type 0} where
  -- a value is among the keys of a table if and only if it is among its values
  pub found_value : (keys : List (Vec ℕ A)) (value : List ℕ) → list_any (λ key. bytes_eq value key.items) keys ≡ is_value (map (λ key. key.items) keys) value
  found_value [] value = refl
  found_value (key ∷ keys) value = λ j. nat_list_eq_equiv.symm value key.items j || found_value keys value j

  -- if a value is new, inserting it appends it
  pub pushed_value : (keys now : List (Vec ℕ A)) (values : List (List ℕ)) (key : Vec ℕ A) (value : List ℕ) → map (λ key. key.items) keys ≡ values → is_value values value ≡ false → key.items ≡ value
      → now ≡ insert_key (λ a b. bytes_eq a.items b.items) keys key → map (λ key. key.items) now ≡ values ++ value ∷ []
  pushed_value keys now values key value are new is put =
      let absent : list_any (λ k. bytes_eq key.items k.items) keys ≡ false =
      ap (λ v. list_any (λ (k : Vec ℕ A). bytes_eq v k.items) keys) is ∙ found_value keys value ∙ ap (λ vs. is_value vs value) are ∙ new in
      ap (map (λ k. k.items)) (put ∙ ap (λ b. if b then keys else keys ++ key ∷ []) absent)
      ∙ map-append (λ k. k.items) keys (key ∷ [])
      ∙ (λ j. are j ++ is j ∷ [])
