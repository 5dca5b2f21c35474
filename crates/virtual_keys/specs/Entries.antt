-- The entries of a dictionary, each a name in lower case with the name as written.
use Rattle.std.specs.Prelude.{◌≡◌, ℕ, ◌≤◌, List, length, map, Vec, All}
use Rattle.std.specs.Str.{str_to_ascii_lowercase}
use Rattle.kmn_base.specs.declared.limits.TheConstants.{KEY_NAMES}
use Rattle.virtual_keys.specs.Dictionary.{AreDistinct}

-- the names as written
abbrev pub written : {A : Type 0} → List (Vec ℕ A × Vec ℕ A) → List (List ℕ)
written entries = map (λ entry. entry.1.items) entries

-- each entry is stored under its name in lower case, no two names are the same, and each has a code of 16 bits
pub record AreEntries {A : Type 0} (entries : List (Vec ℕ A × Vec ℕ A)) : Type 0 where
  pub folded : All (λ entry. entry.0.items ≡ str_to_ascii_lowercase entry.1.items) entries
  pub distinct : AreDistinct (written entries)
  pub few : length entries ≤ KEY_NAMES
