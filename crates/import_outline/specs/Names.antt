-- Lists of names, which compare without ASCII case.
use Rattle.std.specs.Prelude.{ℕ, Bool, List}
use Rattle.std.specs.List.{list_any}
use Rattle.kmn_base.specs.Names.{same_name}

-- whether a name is among names
abbrev pub has_name : List (List ℕ) → List ℕ → Bool
has_name names name = list_any (same_name name) names
