-- Which shift flags the id of a layer stands for.
use Rattle.std.specs.Prelude.{ℕ, ◌+◌, ◌*◌, Bool, false, ◌||◌, ◌==◌, if◌then◌else◌, List, [], ◌∷◌, codes}
use Rattle.std.specs.List.{starts_with}

-- whether a text begins with a word
abbrev pub begins_with : List ℕ → List ℕ → Bool
begins_with word text = starts_with (λ a b. a == b) text word

-- whether a text has a word somewhere
abbrev pub has_word : List ℕ → List ℕ → Bool
has_word word [] = false
has_word word (b ∷ bytes) = begins_with word (b ∷ bytes) || has_word word bytes

-- the sides of a key that a text names: 1 the left one, 2 the right one, and the left one also if it names none
abbrev pub sides : Bool → Bool → Bool → ℕ
sides left right either =
    if left then (if right then 3 else 1)
    else if right then 2
    else if either then 1
    else 0

-- the shift flags of a layer, by the words in its id, as `rightalt-shift`
abbrev pub layer_mods : List ℕ → ℕ
layer_mods id =
    sides (has_word (codes "leftctrl") id) (has_word (codes "rightctrl") id) (has_word (codes "ctrl") id)
    + 4 * sides (has_word (codes "leftalt") id) (has_word (codes "rightalt") id) (has_word (codes "alt") id)
    + (if has_word (codes "shift") id then 16 else 0) + (if has_word (codes "caps") id then 256 else 0)
