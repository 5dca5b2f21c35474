-- Whether each press that fits one key fits another.
use Rattle.std.specs.Prelude.{ℕ, ◌+◌, Bool, not, ◌||◌, List, [], ◌∷◌, ◌++◌, map, filter, flat_map}
use Rattle.std.specs.List.{list_all}
use Rattle.kmn_base.specs.declared.keys.RuleKey.{RuleKey}
use Rattle.kmn_base.specs.declared.keys.RuleKey.TheVariants as key
use Rattle.kmn_base.specs.declared.keys.KeyPress.{KeyPress}
use Rattle.virtual_keys.specs.Fits.{key_fits}
use Rattle.virtual_keys.specs.Keys.{key_codes}

-- the sums of all subsets of these numbers
abbrev pub sums_of : List ℕ → List ℕ
sums_of [] = 0 ∷ []
sums_of (bit ∷ bits) = sums_of bits ++ map (λ sum. bit + sum) (sums_of bits)

-- all combinations of the modifiers that can be held: control and alt of each side, shift and caps lock
unfoldable pub all_modifiers : List ℕ
all_modifiers = sums_of (0x0001 ∷ 0x0002 ∷ 0x0004 ∷ 0x0008 ∷ 0x0010 ∷ 0x0100 ∷ [])

-- the combinations without control and alt
unfoldable pub plain_modifiers : List ℕ
plain_modifiers = sums_of (0x0010 ∷ 0x0100 ∷ [])

-- the codes of the keys that have a name
unfoldable pub all_codes : List ℕ
all_codes = map (λ row. row.1) key_codes

-- the codes to test for a key: the code of a virtual key, or all codes, since a press that produces a character has one of them
abbrev pub codes_to_try : RuleKey → List ℕ
codes_to_try (key.Virtual flags code) = code ∷ []
codes_to_try wanted = all_codes

-- the presses of a code with these modifiers
abbrev pub presses_of : List ℕ → ℕ → List KeyPress
presses_of modifiers code = map (λ mods. record { code = code; mods = mods }) modifiers

-- whether each press of a code that fits the second key fits the first
abbrev pub tried_with : RuleKey → RuleKey → ℕ → Bool
tried_with a b code = list_all (λ press. not (key_fits b press) || key_fits a press) (presses_of all_modifiers code)

-- whether each press to test that fits the second key fits the first
abbrev pub covers_key : RuleKey → RuleKey → Bool
covers_key a b = list_all (tried_with a b) (codes_to_try b)

-- the presses of these codes with these modifiers that fit a key
abbrev pub fitting_of : RuleKey → List ℕ → List ℕ → List KeyPress
fitting_of b modifiers codes = flat_map (λ code. filter (key_fits b) (presses_of modifiers code)) codes

-- the presses to test that fit a key; a press with control or alt does not produce a character
abbrev pub fitting_presses : RuleKey → List KeyPress
fitting_presses key.Any = fitting_of key.Any all_modifiers all_codes
fitting_presses (key.Char c) = fitting_of (key.Char c) plain_modifiers all_codes
fitting_presses (key.Virtual flags code) = fitting_of (key.Virtual flags code) all_modifiers (code ∷ [])
