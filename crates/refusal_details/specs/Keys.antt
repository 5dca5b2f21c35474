-- The names that a word in the brackets of a virtual key may mean.
use Rattle.std.specs.Prelude.{ℕ, zero, suc, Bool, ◌||◌, if◌then◌else◌, List, [], ◌∷◌, ◌++◌, drop, flat_map, is_some, option_and_then, Option, None, Some}
use Rattle.kmn_base.specs.Names.{named_in, same_name}
use Rattle.virtual_keys.specs.Keys.{key_code, key_name, shift_flag, shift_flags}
use Rattle.virtual_keys.specs.declared.dictionary.TheConstants.{FIRST_OWN_CODE}
use Rattle.kmn_items.specs.Words.{is_own_key}
use Rattle.import_tokens.specs.Keys.{key_places}
use Rattle.refusal_details.specs.Nearest.{few, is_like, like_name}

-- whether a word means a key with a name: it is the name without K_, or like the name
unfoldable pub means_key : List ℕ → List ℕ → Bool
means_key word name = same_name word (drop 2 name) || is_like word name

-- the name of a key, if there is one and a word means it
abbrev pub meant_key : List ℕ → Option (List ℕ) → List (List ℕ)
meant_key word None = []
meant_key word (Some name) = if means_key word name then name ∷ [] else []

-- the names of the keys with codes below a number that a word means
unfoldable pub meant_below : List ℕ → ℕ → List (List ℕ)
meant_below word zero = []
meant_below word (suc code) = meant_below word code ++ meant_key word (key_name code)

-- the name of a row, if a word is like it
abbrev pub like_row : List ℕ → List ℕ × ℕ → List (List ℕ)
like_row word row = like_name word row.0

-- the name of the key at the place of the board that a word is, if it is one
abbrev pub placed_name : List ℕ → Option (List ℕ)
placed_name word = option_and_then key_name (named_in key_places word)

abbrev pub placed_names : Option (List ℕ) → List (List ℕ)
placed_names None = []
placed_names (Some name) = name ∷ []

-- the name of the key at the place that a word is, the names of keys that it means, and the modifiers that it is like
unfoldable pub meant_names : List ℕ → List (List ℕ)
meant_names word = placed_names (placed_name word) ++ (meant_below word FIRST_OWN_CODE ++ flat_map (like_row word) shift_flags)

-- whether a word is the name of a key or a modifier
unfoldable pub is_known : List ℕ → Bool
is_known word = is_some (key_code word) || is_some (shift_flag word) || is_own_key word

-- the names that a word in brackets may mean; a name means only itself
unfoldable pub meant : List ℕ → List (List ℕ)
meant word = if is_known word then [] else few (meant_names word)
