-- The words of a key dictionary, checked one after the other.
use Rattle.std.specs.Prelude.{ℕ, Bool, false, not, ◌||◌, nat_eq, List, [], ◌∷◌, ◌++◌, length, filter}
use Rattle.std.specs.List.{list_any}
use Rattle.kmn_base.specs.Names.{same_name}
use Rattle.kmx_decompiler.specs.Causes.{is_dictionary_name}

-- the texts that are not empty
abbrev pub not_empty : List (List ℕ) → List (List ℕ)
not_empty words = filter (λ word. not (nat_eq (length word) 0)) words

-- whether one of the names, which come after `before`, is not a key name or equals an earlier name
abbrev pub are_unfit : List (List ℕ) → (before : List (List ℕ)) → Bool
are_unfit [] before = false
are_unfit (name ∷ names) before =
    not (is_dictionary_name name) || (list_any (λ known. same_name known name) before || are_unfit names (before ++ name ∷ []))
