-- A step of writing characters as tokens.
use Rattle.std.specs.Prelude.{◌≡◌, ℕ, List, ◌∷◌, ◌++◌}
use Rattle.kmn_items.specs.TokenTexts.{LineToken}
use Rattle.import_tokens.specs.Ranges.{spelled}

-- after a character the tokens and the run are such that, with the rest spelled, they are what they were with the character before the rest
abbrev pub Spells : List LineToken → List ℕ → ℕ → List LineToken → List ℕ → Type 0
Spells tokens run c more next = (rest : List ℕ) → more ++ spelled next rest ≡ tokens ++ spelled run (c ∷ rest)
