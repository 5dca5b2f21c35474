-- The keys of a set of values of options, as a table of values has them.
use Rattle.std.proofs.Common.{◌≡◌, ℕ, Bool, true, false, List, [], ◌∷◌, ◌++◌, map, Vec, refl, sym, ap, ◌∙◌, if◌then◌else◌}
use Rattle.std.specs.Prelude.{◌||◌}
use Rattle.std.specs.List.{list_any}
use Rattle.std.proofs.lemmas.List.{map-append}
use Rattle.indexmap.specs.IndexSet.{insert_key}
use Rattle.source_uses.specs.Choices.{choice_key, is_chosen, same_key, with_choice}

module _ {K : Type 0} (f : K → List ℕ × List ℕ) (same : K → K → Bool) (is : (a b : K) → same a b ≡ same_key (f a) (f b)) where
  any_seen : (key : K) (keys : List K) → list_any (same key) keys ≡ list_any (same_key (f key)) (map f keys)
  any_seen key [] = refl
  any_seen key (other ∷ keys) = λ j. is key other j || any_seen key keys j

  -- a look-up finds what the table has
  chosen_found : (keys : List K) (key : K) (before : List (List ℕ × List ℕ)) (option value : List ℕ) → before ≡ map f keys → f key ≡ choice_key option value
      → list_any (same key) keys ≡ is_chosen before option value
  chosen_found keys key before option value seen at = any_seen key keys ∙ (λ j. list_any (same_key (at j)) (sym seen j))

  inserted : (keys : List K) (key : K) → map f (insert_key same keys key) ≡ (if list_any (same_key (f key)) (map f keys) then map f keys else map f keys ++ f key ∷ [])
  inserted keys key = by (list_any (same key) keys) ∙ ap (λ t. if t then map f keys else map f keys ++ f key ∷ []) (any_seen key keys)
    where
      by : (t : Bool) → map f (if t then keys else keys ++ key ∷ []) ≡ (if t then map f keys else map f keys ++ f key ∷ [])
      by true = refl
      by false = map-append f keys (key ∷ [])

  -- an insertion adds a value
  chosen_more : (keys more : List K) (key : K) (before : List (List ℕ × List ℕ)) (option value : List ℕ) → before ≡ map f keys → more ≡ insert_key same keys key
      → f key ≡ choice_key option value → map f more ≡ with_choice before option value
  chosen_more keys more key before option value seen added at =
      ap (map f) added ∙ inserted keys key
      ∙ (λ j. if list_any (same_key (at j)) (sym seen j) then sym seen j else sym seen j ++ at j ∷ [])

-- a key of a table: an option in lower case, and a value
abbrev seen_key : {A B : Type 0} → Vec ℕ A × Vec ℕ B → List ℕ × List ℕ
seen_key key = (key.0.items, key.1.items)

pub table_found : {A B : Type 0} (keys : List (Vec ℕ A × Vec ℕ B)) (key : Vec ℕ A × Vec ℕ B) (before : List (List ℕ × List ℕ)) (option value : List ℕ)
    → map seen_key keys ≡ before → seen_key key ≡ choice_key option value → list_any (λ known. same_key (seen_key key) (seen_key known)) keys ≡ is_chosen before option value
table_found keys key before option value seen at =
    chosen_found seen_key (λ a b. same_key (seen_key a) (seen_key b)) (λ a b. refl) keys key before option value (sym seen) at

pub table_more : {A B : Type 0} (keys more : List (Vec ℕ A × Vec ℕ B)) (key : Vec ℕ A × Vec ℕ B) (before : List (List ℕ × List ℕ)) (option value : List ℕ)
    → map seen_key keys ≡ before → more ≡ insert_key (λ a b. same_key (seen_key a) (seen_key b)) keys key → seen_key key ≡ choice_key option value
    → map seen_key more ≡ with_choice before option value
table_more keys more key before option value seen added at =
    chosen_more seen_key (λ a b. same_key (seen_key a) (seen_key b)) (λ a b. refl) keys more key before option value (sym seen) added at
