-- The character that a press produces, and the presses that fit the key of a rule.
use Rattle.std.specs.Prelude.{ℕ, ◌+◌, Bool, true, false, ◌&&◌, ◌||◌, not, nat_eq, nat_le, bit_and, if◌then◌else◌, List, Option, Some, None, option_map, find}
use Rattle.std.specs.Option.{option_map_or}
use Rattle.std.specs.Bool.{beq}
use Rattle.kmn_base.specs.declared.keys.KeyPress.{KeyPress}
use Rattle.kmn_base.specs.declared.keys.TheConstants.{LEFT_CONTROL, RIGHT_CONTROL, LEFT_ALT, RIGHT_ALT, SHIFT, EITHER_CONTROL, EITHER_ALT, CAPS, NO_CAPS}
use Rattle.kmn_base.specs.declared.keys.RuleKey.{RuleKey}
use Rattle.kmn_base.specs.declared.keys.RuleKey.TheVariants.{Any, Char, Virtual}
use Rattle.virtual_keys.specs.Keys.{us_characters}

-- the bits of shift flags; a press has the sides, shift and caps lock at the same bits
abbrev pub left_control : ℕ
left_control = LEFT_CONTROL

abbrev pub right_control : ℕ
right_control = RIGHT_CONTROL

abbrev pub left_alt : ℕ
left_alt = LEFT_ALT

abbrev pub right_alt : ℕ
right_alt = RIGHT_ALT

abbrev pub shift : ℕ
shift = SHIFT

abbrev pub either_control : ℕ
either_control = EITHER_CONTROL

abbrev pub either_alt : ℕ
either_alt = EITHER_ALT

abbrev pub caps : ℕ
caps = CAPS

abbrev pub no_caps : ℕ
no_caps = NO_CAPS

-- whether a bit is set
abbrev pub has : ℕ → ℕ → Bool
has bits bit = not (nat_eq (bit_and bits bit) 0)

-- whether one of two bits is set
abbrev pub has_either : ℕ → ℕ → ℕ → Bool
has_either bits left right = has bits left || has bits right

-- whether a code is the code of one of the letter keys K_A to K_Z
abbrev pub is_letter : ℕ → Bool
is_letter code = nat_le 65 code && nat_le code 90

-- the letter of a letter key: its code is the upper-case letter, and 32 more is the lower-case one
abbrev pub letter : ℕ → Bool → ℕ
letter code upper = if upper then code else code + 32

-- the character that a table has for a key, with or without shift
abbrev pub character_in : List (ℕ × ℕ × ℕ) → ℕ → Bool → Option ℕ
character_in table code shifted = option_map (λ row. if shifted then row.2 else row.1) (find (λ row. nat_eq row.0 code) table)

-- the character that a key produces on the US layout: letters are upper case with exactly one of shift and caps lock, and other keys
-- depend only on shift
abbrev pub us_character : ℕ → Bool → Bool → Option ℕ
us_character code shifted locked = if is_letter code then Some (letter code (not (beq shifted locked))) else character_in us_characters code shifted

-- whether neither control nor alt is held
abbrev pub is_plain : KeyPress → Bool
is_plain press = not (has_either press.mods left_control right_control || has_either press.mods left_alt right_alt)

-- the character of a press: the character of its key on the US layout, or none with control or alt held
unfoldable pub char_of_press : KeyPress → Option ℕ
char_of_press press = if is_plain press then us_character press.code (has press.mods shift) (has press.mods caps) else None

-- whether control or alt fits: if it is named without a side, one of its sides is held; else exactly the named sides are held
abbrev pub sides_fit : ℕ → ℕ → ℕ → ℕ → ℕ → Bool
sides_fit either left right flags mods =
    if has flags either then has_either mods left right
    else (beq (has flags left) (has mods left) && beq (has flags right) (has mods right))

-- whether caps lock fits: it is on if the flags require it on, and off if they require it off; if they require both, nothing fits
abbrev pub caps_fit : ℕ → ℕ → Bool
caps_fit flags mods = (not (has flags caps) || has mods caps) && (not (has flags no_caps) || not (has mods caps))

-- whether the held modifiers are those that the shift flags require
abbrev pub flags_fit : ℕ → ℕ → Bool
flags_fit flags mods =
    beq (has flags shift) (has mods shift) && caps_fit flags mods && sides_fit either_control left_control right_control flags mods
    && sides_fit either_alt left_alt right_alt flags mods

-- whether the key of a rule fits a press: a character key fits a press that produces it, a virtual key fits by code and flags
unfoldable pub key_fits : RuleKey → KeyPress → Bool
key_fits Any press = true
key_fits (Char c) press = option_map_or (nat_eq c) (char_of_press press) false
key_fits (Virtual flags code) press = nat_eq code press.code && flags_fit flags press.mods
