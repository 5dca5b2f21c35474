-- Keys that Keyman's own engine matches with other presses.
use Rattle.std.specs.Prelude.{ℕ, Bool, false, not, ◌&&◌, ◌||◌, nat_eq, nat_le}
use Rattle.kmn_base.specs.declared.keys.RuleKey.{RuleKey}
use Rattle.kmn_base.specs.declared.keys.RuleKey.TheVariants as key
use Rattle.virtual_keys.specs.Fits.{has, has_either, left_control, right_control, either_control, left_alt, right_alt, either_alt, shift}

-- whether shift flags have a side of control or alt
abbrev pub names_side : ℕ → Bool
names_side flags = has_either flags left_control right_control || has_either flags left_alt right_alt

-- the key has CTRL or ALT, and a side of one of them. No press matches it there
abbrev pub has_both_sides : RuleKey → Bool
has_both_sides (key.Virtual flags code) = has_either flags either_control either_alt && names_side flags
has_both_sides _ = false

-- the key has LCTRL and RALT, and no other of RCTRL, LALT, SHIFT, CTRL and ALT. It matches RALT alone there too, since some systems
-- report both for AltGr
abbrev pub is_alt_graph : RuleKey → Bool
is_alt_graph (key.Virtual flags code) =
    ((has flags left_control && has flags right_alt) && not (has_either flags right_control left_alt))
    && not (has flags shift || has_either flags either_control either_alt)
is_alt_graph _ = false

-- the key has CTRL or ALT and no side, or both sides of one. A press with both sides of CTRL, or of ALT, held never matches it there
abbrev pub fits_both : RuleKey → Bool
fits_both (key.Virtual flags code) =
    not (has_either flags either_control either_alt && names_side flags)
    && (has_either flags either_control either_alt || ((has flags left_control && has flags right_control) || (has flags left_alt && has flags right_alt)))
fits_both _ = false

-- the key is a character of the keypad: a digit or one of `* + - . /`. A key of the keypad has no character there
abbrev pub is_keypad_character : RuleKey → Bool
is_keypad_character (key.Char c) = (nat_le 42 c && nat_le c 57) && not (nat_eq c 44)
is_keypad_character _ = false
