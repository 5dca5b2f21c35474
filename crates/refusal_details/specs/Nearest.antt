-- The names that a word is like.
use Rattle.std.specs.Prelude.{ℕ, nat_lt, ◌==◌, Bool, not, ◌&&◌, if◌then◌else◌, List, [], ◌∷◌, length, flat_map}
use Rattle.refusal_details.specs.declared.definitions.Definition.{Definition}
use Rattle.refusal_details.specs.declared.detail.Detail.{Detail}
use Rattle.refusal_details.specs.declared.nearest.TheConstants.{NEAR_NAMES}
use Rattle.refusal_details.specs.Letters.{is_near}
use Rattle.refusal_details.specs.Words.{worded}

-- whether a word is like a name: the name is not empty, and the two differ in one letter
unfoldable pub is_like : List ℕ → List ℕ → Bool
is_like word name = not (length name == 0) && is_near word name

-- a name, if a word is like it, and the name of a definition
abbrev pub like_name : List ℕ → List ℕ → List (List ℕ)
like_name word name = if is_like word name then name ∷ [] else []

abbrev pub like_definition : List ℕ → Definition → List (List ℕ)
like_definition word definition = like_name word definition.name

-- whether names are too many to be of help
abbrev pub are_many : List (List ℕ) → Bool
are_many names = nat_lt NEAR_NAMES (length names)

-- names, or none if there are too many
unfoldable pub few : List (List ℕ) → List (List ℕ)
few names = if are_many names then [] else names

-- a name that is not defined, with the defined names that it is like
unfoldable pub lacked : List ℕ → List Definition → Detail
lacked name definitions = worded name (few (flat_map (like_definition name) definitions))
