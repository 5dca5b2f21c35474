-- A name is new exactly where its form in lower case is new.
use Rattle.std.proofs.Common.{◌≡◌, ℕ, Bool, true, false, not, List, [], ◌∷◌, ◌++◌, map, Vec, refl, sym, ◌∙◌, if◌then◌else◌}
use Rattle.std.specs.Prelude.{◌||◌}
use Rattle.std.specs.List.{list_any}
use Rattle.std.specs.Str.{bytes_eq, str_to_ascii_lowercase}
use Rattle.std.specs.Cmp.Lexicographic.{nat_list_eq_equiv}
use Rattle.kmn_base.specs.Names.{same_name}

among : (names : List (List ℕ)) (name : List ℕ) → list_any (bytes_eq (str_to_ascii_lowercase name)) (map str_to_ascii_lowercase names) ≡ list_any (λ known. same_name known name) names
unfolding same_name
among [] name = refl
among (known ∷ names) name = λ j. nat_list_eq_equiv.symm (str_to_ascii_lowercase name) (str_to_ascii_lowercase known) j || among names name j

-- names with a name appended, if it is known whether the name is new
put_new : (known new : Bool) (names : List (List ℕ)) (name : List ℕ) → new ≡ not known → new ≡ true → names ++ name ∷ [] ≡ (if known then names else names ++ name ∷ [])
put_new true new names name is e = let bad : false ≡ true = sym is ∙ e in absurd cc
put_new false new names name is e = refl

put_known : (known new : Bool) (names : List (List ℕ)) (name : List ℕ) → new ≡ not known → new ≡ false → names ≡ (if known then names else names ++ name ∷ [])
put_known true new names name is e = refl
put_known false new names name is e = let bad : true ≡ false = sym is ∙ e in absurd cc

module _ {A : Type 0} where
  any_text : (keys : List (Vec ℕ A)) (x : List ℕ) → list_any (λ key. bytes_eq x key.items) keys ≡ list_any (bytes_eq x) (map (λ key. key.items) keys)
  any_text [] x = refl
  any_text (key ∷ keys) x = λ j. bytes_eq x key.items || any_text keys x j

  folded_among : (keys : List (Vec ℕ A)) (names : List (List ℕ)) (key : Vec ℕ A) (name : List ℕ)
      → map (λ key. key.items) keys ≡ map str_to_ascii_lowercase names → key.items ≡ str_to_ascii_lowercase name
      → list_any (λ other. bytes_eq key.items other.items) keys ≡ list_any (λ known. same_name known name) names
  folded_among keys names key name are is =
      any_text keys key.items ∙ (λ j. list_any (bytes_eq (is j)) (are j)) ∙ among names name

  pub new_name : (keys : List (Vec ℕ A)) (names : List (List ℕ)) (key : Vec ℕ A) (name : List ℕ) (new : Bool)
      → map (λ key. key.items) keys ≡ map str_to_ascii_lowercase names → key.items ≡ str_to_ascii_lowercase name
      → new ≡ not (list_any (λ other. bytes_eq key.items other.items) keys) → new ≡ true
      → names ++ name ∷ [] ≡ (if list_any (λ known. same_name known name) names then names else names ++ name ∷ [])
  new_name keys names key name new are is added =
      put_new (list_any (λ known. same_name known name) names) new names name (added ∙ (λ j. not (folded_among keys names key name are is j)))

  pub known_name : (keys : List (Vec ℕ A)) (names : List (List ℕ)) (key : Vec ℕ A) (name : List ℕ) (new : Bool)
      → map (λ key. key.items) keys ≡ map str_to_ascii_lowercase names → key.items ≡ str_to_ascii_lowercase name
      → new ≡ not (list_any (λ other. bytes_eq key.items other.items) keys) → new ≡ false
      → names ≡ (if list_any (λ known. same_name known name) names then names else names ++ name ∷ [])
  known_name keys names key name new are is added =
      put_known (list_any (λ known. same_name known name) names) new names name (added ∙ (λ j. not (folded_among keys names key name are is j)))
