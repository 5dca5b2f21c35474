-- The names of custom keys, read character by character.
use Rattle.std.specs.Prelude.{ℕ, nat_eq, if◌then◌else◌, List, [], ◌∷◌, ◌++◌, length}
use Rattle.std.specs.Char.{encode_utf8}
use Rattle.virtual_keys.specs.Dictionary.{with_name}

-- the names and a word, unless the word is empty or the same as one of them
abbrev pub names_with : List (List ℕ) → List ℕ → List (List ℕ)
names_with names word = if nat_eq (length word) 0 then names else with_name names word

-- the names after a character, and the bytes of the word so far: a space ends the word
abbrev pub names_after : ℕ → List (List ℕ) → List ℕ → List (List ℕ)
names_after c names word = if nat_eq c 32 then names_with names word else names

abbrev pub word_after : ℕ → List ℕ → List ℕ
word_after c word = if nat_eq c 32 then [] else word ++ encode_utf8 c
