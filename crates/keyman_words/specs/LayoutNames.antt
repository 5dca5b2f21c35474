-- Names of touch layouts.
use Rattle.std.specs.Prelude.{ℕ, ◌||◌, ◌==◌, Bool, List, codes}
use Rattle.std.specs.List.{ends_with}

-- whether a name ends as the name of a touch layout does
abbrev pub is_layout : List ℕ → Bool
is_layout name =
    ends_with (λ a b. a == b) name (codes ".keyman-touch-layout") || ends_with (λ a b. a == b) name (codes ".json")
