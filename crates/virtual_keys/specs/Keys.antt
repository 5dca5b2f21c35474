-- The keys and the shift flags by name, and the characters that keys produce on the US layout.
use Rattle.std.specs.Prelude.{ℕ, List, [], ◌∷◌, Option, option_map, find, codes, nat_eq}
use Rattle.std.specs.Str.{byte}
use Rattle.kmn_base.specs.Names.{named_in}
use Rattle.kmn_base.specs.declared.keys.TheConstants.{LEFT_CONTROL, RIGHT_CONTROL, LEFT_ALT, RIGHT_ALT, SHIFT, EITHER_CONTROL, EITHER_ALT, CAPS, NO_CAPS}

-- each key by its name, with its code
unfoldable pub key_codes : List (List ℕ × ℕ)
key_codes =
    (codes "K_A", 65) ∷ (codes "K_B", 66) ∷ (codes "K_C", 67) ∷ (codes "K_D", 68) ∷ (codes "K_E", 69) ∷
    (codes "K_F", 70) ∷ (codes "K_G", 71) ∷ (codes "K_H", 72) ∷ (codes "K_I", 73) ∷ (codes "K_J", 74) ∷
    (codes "K_K", 75) ∷ (codes "K_L", 76) ∷ (codes "K_M", 77) ∷ (codes "K_N", 78) ∷ (codes "K_O", 79) ∷
    (codes "K_P", 80) ∷ (codes "K_Q", 81) ∷ (codes "K_R", 82) ∷ (codes "K_S", 83) ∷ (codes "K_T", 84) ∷
    (codes "K_U", 85) ∷ (codes "K_V", 86) ∷ (codes "K_W", 87) ∷ (codes "K_X", 88) ∷ (codes "K_Y", 89) ∷
    (codes "K_Z", 90) ∷ (codes "K_0", 48) ∷ (codes "K_1", 49) ∷ (codes "K_2", 50) ∷ (codes "K_3", 51) ∷
    (codes "K_4", 52) ∷ (codes "K_5", 53) ∷ (codes "K_6", 54) ∷ (codes "K_7", 55) ∷ (codes "K_8", 56) ∷
    (codes "K_9", 57) ∷ (codes "K_BKSP", 8) ∷ (codes "K_TAB", 9) ∷ (codes "K_ENTER", 13) ∷ (codes "K_ESC", 27) ∷
    (codes "K_SPACE", 32) ∷ (codes "K_PGUP", 33) ∷ (codes "K_PGDN", 34) ∷ (codes "K_END", 35) ∷ (codes "K_HOME", 36) ∷
    (codes "K_LEFT", 37) ∷ (codes "K_UP", 38) ∷ (codes "K_RIGHT", 39) ∷ (codes "K_DOWN", 40) ∷ (codes "K_INS", 45) ∷
    (codes "K_DEL", 46) ∷ (codes "K_NP0", 96) ∷ (codes "K_NP1", 97) ∷ (codes "K_NP2", 98) ∷ (codes "K_NP3", 99) ∷
    (codes "K_NP4", 100) ∷ (codes "K_NP5", 101) ∷ (codes "K_NP6", 102) ∷ (codes "K_NP7", 103) ∷ (codes "K_NP8", 104) ∷
    (codes "K_NP9", 105) ∷ (codes "K_NPSTAR", 106) ∷ (codes "K_NPPLUS", 107) ∷ (codes "K_NPMINUS", 109) ∷
    (codes "K_NPDOT", 110) ∷ (codes "K_NPSLASH", 111) ∷ (codes "K_F1", 112) ∷ (codes "K_F2", 113) ∷
    (codes "K_F3", 114) ∷ (codes "K_F4", 115) ∷ (codes "K_F5", 116) ∷ (codes "K_F6", 117) ∷ (codes "K_F7", 118) ∷
    (codes "K_F8", 119) ∷ (codes "K_F9", 120) ∷ (codes "K_F10", 121) ∷ (codes "K_F11", 122) ∷ (codes "K_F12", 123) ∷
    (codes "K_COLON", 186) ∷ (codes "K_EQUAL", 187) ∷ (codes "K_COMMA", 188) ∷ (codes "K_HYPHEN", 189) ∷
    (codes "K_PERIOD", 190) ∷ (codes "K_SLASH", 191) ∷ (codes "K_BKQUOTE", 192) ∷ (codes "K_LBRKT", 219) ∷
    (codes "K_BKSLASH", 220) ∷ (codes "K_RBRKT", 221) ∷ (codes "K_QUOTE", 222) ∷ (codes "K_oE2", 226) ∷ []

-- each word of a shift flag, with the flag
unfoldable pub shift_flags : List (List ℕ × ℕ)
shift_flags =
    (codes "LCTRL", LEFT_CONTROL) ∷ (codes "RCTRL", RIGHT_CONTROL) ∷ (codes "LALT", LEFT_ALT) ∷ (codes "RALT", RIGHT_ALT) ∷
    (codes "SHIFT", SHIFT) ∷ (codes "CTRL", EITHER_CONTROL) ∷ (codes "ALT", EITHER_ALT) ∷ (codes "CAPS", CAPS) ∷
    (codes "NCAPS", NO_CAPS) ∷ []

-- each key that produces a character, except the letters: its code, its character, and its character with shift
unfoldable pub us_characters : List (ℕ × ℕ × ℕ)
us_characters =
    (48, byte "0", byte ")") ∷ (49, byte "1", byte "!") ∷ (50, byte "2", byte "@") ∷ (51, byte "3", byte "#") ∷
    (52, byte "4", byte "$") ∷ (53, byte "5", byte "%") ∷ (54, byte "6", byte "^") ∷ (55, byte "7", byte "&") ∷
    (56, byte "8", byte "*") ∷ (57, byte "9", byte "(") ∷ (186, byte ";", byte ":") ∷ (187, byte "=", byte "+") ∷
    (188, byte ",", byte "<") ∷ (189, byte "-", byte "_") ∷ (190, byte ".", byte ">") ∷ (191, byte "/", byte "?") ∷
    (192, byte "`", byte "~") ∷ (219, byte "[", byte "{") ∷ (220, byte "\\", byte "|") ∷ (221, byte "]", byte "}") ∷
    (222, byte "'", byte "\"") ∷ (32, byte " ", byte " ") ∷ (96, byte "0", byte "0") ∷ (97, byte "1", byte "1") ∷
    (98, byte "2", byte "2") ∷ (99, byte "3", byte "3") ∷ (100, byte "4", byte "4") ∷ (101, byte "5", byte "5") ∷
    (102, byte "6", byte "6") ∷ (103, byte "7", byte "7") ∷ (104, byte "8", byte "8") ∷ (105, byte "9", byte "9") ∷
    (106, byte "*", byte "*") ∷ (107, byte "+", byte "+") ∷ (109, byte "-", byte "-") ∷ (110, byte ".", byte ".") ∷
    (111, byte "/", byte "/") ∷ []

-- the name that a table has for a number
abbrev pub name_numbered : List (List ℕ × ℕ) → ℕ → Option (List ℕ)
name_numbered table number = option_map (λ row. row.0) (find (λ row. nat_eq row.1 number) table)

-- the code of the key with a name
abbrev pub key_code : List ℕ → Option ℕ
key_code name = named_in key_codes name

-- the name of the key with a code
abbrev pub key_name : ℕ → Option (List ℕ)
key_name code = name_numbered key_codes code

-- the shift flag of a word
abbrev pub shift_flag : List ℕ → Option ℕ
shift_flag word = named_in shift_flags word
