-- The entries of a table of names: each name in lower case, with its first index.
use Rattle.std.specs.Prelude.{◌≡◌, ℕ, ◌+◌, List, map, Vec, Option, Some, None}
use Rattle.std.specs.Str.{str_to_ascii_lowercase, bytes_eq}
use Rattle.std.specs.List.{position}
use Rattle.std.specs.Map.{lookup}

-- the names as appended
abbrev pub written : {A : Type 0} → List (Vec ℕ A) → List (List ℕ)
written names = map (λ name. name.items) names

-- the entries have a name in lower case exactly where the names have the name, with the same index
pub record ArePlaces {A : Type 0} (names : List (List ℕ)) (entries : List (Vec ℕ A × ℕ)) : Type 0 where
  pub found :
      (query : List ℕ)
      → lookup (λ key. bytes_eq query key.items) entries
      ≡ position (λ name. bytes_eq query (str_to_ascii_lowercase name)) names
