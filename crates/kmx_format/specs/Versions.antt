-- The versions of the format.
use Rattle.std.specs.Prelude.{ℕ, Bool, nat_eq, List, [], ◌∷◌, map, find, codes, unwrap_or, option_map}
use Rattle.std.specs.List.{list_any}

-- the text of each version, as in `&version`, with its number in a file
abbrev pub file_versions : List (List ℕ × ℕ)
file_versions =
    (codes "6.0", 0x0600) ∷ (codes "7.0", 0x0700) ∷ (codes "8.0", 0x0800) ∷ (codes "9.0", 0x0900) ∷ (codes "10.0", 0x0A00) ∷
    (codes "14.0", 0x0E00) ∷ (codes "15.0", 0x0F00) ∷ (codes "16.0", 0x1000) ∷ (codes "17.0", 0x1100) ∷ []

abbrev pub version_numbers : List ℕ
version_numbers = map (λ (row : List ℕ × ℕ). row.1) file_versions

-- whether a number is the number of a version
abbrev pub is_version : ℕ → Bool
is_version version = list_any (nat_eq version) version_numbers

-- the text of the version with a number
abbrev pub version_text : ℕ → List ℕ
version_text version = unwrap_or (option_map (λ row. row.0) (find (λ row. nat_eq row.1 version) file_versions)) []
