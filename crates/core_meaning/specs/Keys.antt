-- Which character a key press produces in Keyman's own engine, and which key presses the key of a rule fits there.
use Rattle.std.specs.Prelude.{ℕ, Bool, true, false, ◌&&◌, ◌||◌, not, nat_eq, nat_le, if◌then◌else◌, Option, None}
use Rattle.std.specs.Bool.{beq}
use Rattle.std.specs.Option.{option_map_or}
use Rattle.kmn_base.specs.declared.keys.KeyPress.{KeyPress}
use Rattle.kmn_base.specs.declared.keys.RuleKey.{RuleKey}
use Rattle.kmn_base.specs.declared.keys.RuleKey.TheVariants.{Any, Char, Virtual}
use Rattle.virtual_keys.specs.Fits.{left_control, right_control, left_alt, right_alt, shift, either_control, either_alt, has, has_either, caps_fit, char_of_press}

-- whether a code is of one of the 15 keys of the keypad
abbrev pub is_keypad : ℕ → Bool
is_keypad code = nat_le 96 code && nat_le code 111 && not (nat_eq code 108)

-- the character of a press: as in this product, but none for a key of the keypad
abbrev pub core_char : KeyPress → Option ℕ
core_char press = if is_keypad press.code then None else char_of_press press

-- whether both sides of control, or both sides of alt, are among modifiers
abbrev pub has_both_sides : ℕ → Bool
has_both_sides bits = (has bits left_control && has bits right_control) || (has bits left_alt && has bits right_alt)

-- whether some side of control or of alt is among them
abbrev pub has_side : ℕ → Bool
has_side bits = has_either bits left_control right_control || has_either bits left_alt right_alt

-- whether flags name control or alt without a side
abbrev pub names_either : ℕ → Bool
names_either flags = has_either flags either_control either_alt

-- flags that name no side: some side of control is held exactly where they name control, and some side of alt exactly where
-- they name alt
abbrev pub eithers_fit : ℕ → ℕ → Bool
eithers_fit flags mods =
    not (has_side flags) && beq (has flags either_control) (has_either mods left_control right_control)
    && beq (has flags either_alt) (has_either mods left_alt right_alt)

-- exactly the sides that flags name are held
abbrev pub same_sides : ℕ → ℕ → Bool
same_sides flags mods =
    beq (has flags left_control) (has mods left_control) && beq (has flags right_control) (has mods right_control)
    && (beq (has flags left_alt) (has mods left_alt) && beq (has flags right_alt) (has mods right_alt))

-- whether flags name the left control and the right alt, and neither another side nor shift
abbrev pub names_alt_gr : ℕ → Bool
names_alt_gr flags =
    has flags left_control && has flags right_alt && not (has flags right_control) && not (has flags left_alt) && not (has flags shift)

-- whether the right alt is held, and neither another side nor shift
abbrev pub right_alt_alone : ℕ → Bool
right_alt_alone mods =
    has mods right_alt && not (has mods left_control) && not (has mods right_control) && not (has mods left_alt) && not (has mods shift)

-- exactly the sides that flags name are held; or the flags name the left control and the right alt, and only the right alt is held
abbrev pub sides_named_fit : ℕ → ℕ → Bool
sides_named_fit flags mods = (beq (has flags shift) (has mods shift) && same_sides flags mods) || (names_alt_gr flags && right_alt_alone mods)

-- whether the held modifiers are those that flags ask for; if both sides of control or of alt are held, none are
abbrev pub core_flags_fit : ℕ → ℕ → Bool
core_flags_fit flags mods =
    caps_fit flags mods && not (has_both_sides mods)
    && (if names_either flags then beq (has flags shift) (has mods shift) && eithers_fit flags mods else sides_named_fit flags mods)

-- whether the key of a rule fits a press
abbrev pub core_key_fits : RuleKey → KeyPress → Bool
core_key_fits Any press = true
core_key_fits (Char c) press = option_map_or (nat_eq c) (core_char press) false
core_key_fits (Virtual flags code) press = nat_eq code press.code && core_flags_fit flags press.mods
