-- The key press that the words in a bracket name.
use Rattle.std.specs.Prelude.{ℕ, nat_eq, if◌then◌else◌, List, [], ◌∷◌, option_map, option_and_then, bit_or, Option, Some, None}
use Rattle.kmn_base.specs.declared.keys.KeyPress.{KeyPress}
use Rattle.virtual_keys.specs.Dictionary.{code_in}
use Rattle.virtual_keys.specs.Fits.{left_control, left_alt, either_control, either_alt, no_caps}
use Rattle.virtual_keys.specs.Keys.{key_code, shift_flag}

-- the bit of a shift flag in a key press: control and alt without a side have the left bits, and `no_caps` has none
abbrev pub held_bit : ℕ → Option ℕ
held_bit flag =
    if nat_eq flag either_control then Some left_control
    else (if nat_eq flag either_alt then Some left_alt else (if nat_eq flag no_caps then None else Some flag))

-- the bit of a modifier word
abbrev pub modifier_bit : List ℕ → Option ℕ
modifier_bit word = option_and_then held_bit (shift_flag word)

-- the code of a key: the given code if there is one, else the code of the word in the keyboard's dictionary
abbrev pub own_code : List (List ℕ) → List ℕ → Option ℕ → Option ℕ
own_code dictionary word None = code_in dictionary word
own_code dictionary word (Some code) = Some code

abbrev pub key_of : List (List ℕ) → List ℕ → Option ℕ
key_of dictionary word = own_code dictionary word (key_code word)

-- the key press that words name, with the modifiers `mods` added: the last word names the key, and each word before it names a
-- modifier
abbrev pub press_with : List (List ℕ) → ℕ → List (List ℕ) → Option KeyPress
press_with dictionary mods [] = None
press_with dictionary mods (key ∷ []) = option_map (λ code. record { code = code; mods = mods }) (key_of dictionary key)
press_with dictionary mods (word ∷ next ∷ more) =
    option_and_then (λ bit. press_with dictionary (bit_or mods bit) (next ∷ more)) (modifier_bit word)
