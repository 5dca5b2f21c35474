-- The names of system stores that a word is like.
use Rattle.std.specs.Prelude.{ℕ, zero, suc, ◌==◌, if◌then◌else◌, List, [], ◌++◌, length, codes}
use Rattle.kmn_parser.specs.Line.{system_store_name}
use Rattle.refusal_details.specs.declared.systems.TheConstants.{SYSTEM_IDS}
use Rattle.refusal_details.specs.Nearest.{few, like_name}

-- the name of the system store with an id, with its &, or an empty name
unfoldable pub system_name : ℕ → List ℕ
system_name id = if length (system_store_name id) == 0 then [] else codes "&" ++ system_store_name id

-- the names of the system stores with ids below a number that a word is like
unfoldable pub systems_below : List ℕ → ℕ → List (List ℕ)
systems_below word zero = []
systems_below word (suc id) = systems_below word id ++ like_name word (system_name id)

-- the names of supported system stores that a word is like
unfoldable pub like_systems : List ℕ → List (List ℕ)
like_systems word = few (systems_below word SYSTEM_IDS)
