-- Keys of rules, and presses that no rule takes: what both versions of the engine typed.
use Rattle.std.specs.Prelude.{[], ◌∷◌, ◌++◌, codes}
use Rattle.std.specs.Str.{byte}
use Rattle.rule_model.specs.declared.tables.Tables.{Tables}
use Rattle.rule_model.specs.declared.tables.Out.TheVariants as output
use Rattle.core_meaning.specs.Typed.{file, with_keys, without_keys, on_char, on_key, without_key, reads, puts, dictionary, press, held, keys, BothType}

-- + [CTRL LCTRL K_A] > 'x'; + [ALT RALT K_B] > 'y'
abbrev pub ctrl_and_its_side_rules : Tables
ctrl_and_its_side_rules = file []
    (with_keys [] []
    (on_key [] 0x4021 65 (puts (codes "x"))
    ∷ on_key [] 0x4048 66 (puts (codes "y")) ∷ [])
    ∷ [])

-- + [CTRL RALT K_A] > 'x'
abbrev pub ctrl_with_ralt_rules : Tables
ctrl_with_ralt_rules = file []
    (with_keys [] []
    (on_key [] 0x4028 65 (puts (codes "x")) ∷ [])
    ∷ [])

-- + [LCTRL ALT K_A] > 'x'
abbrev pub alt_with_lctrl_rules : Tables
alt_with_lctrl_rules = file []
    (with_keys [] []
    (on_key [] 0x4041 65 (puts (codes "x")) ∷ [])
    ∷ [])

-- + [LCTRL LALT K_A] > 'x'; + [RCTRL RALT K_A] > 'y'
abbrev pub sides_named_rules : Tables
sides_named_rules = file []
    (with_keys [] []
    (on_key [] 0x4005 65 (puts (codes "x"))
    ∷ on_key [] 0x400A 65 (puts (codes "y")) ∷ [])
    ∷ [])

-- + [LCTRL RALT K_A] > 'x'
abbrev pub altgr_rules : Tables
altgr_rules = file []
    (with_keys [] []
    (on_key [] 0x4009 65 (puts (codes "x")) ∷ [])
    ∷ [])

-- + [SHIFT LCTRL RALT K_A] > 'x'
abbrev pub altgr_shift_rules : Tables
altgr_shift_rules = file []
    (with_keys [] []
    (on_key [] 0x4019 65 (puts (codes "x")) ∷ [])
    ∷ [])

-- + [CAPS LCTRL RALT K_A] > 'x'
abbrev pub altgr_caps_rules : Tables
altgr_caps_rules = file []
    (with_keys [] []
    (on_key [] 0x4109 65 (puts (codes "x")) ∷ [])
    ∷ [])

-- + [CTRL K_A] > 'x'
abbrev pub both_controls_held_rules : Tables
both_controls_held_rules = file []
    (with_keys [] []
    (on_key [] 0x4020 65 (puts (codes "x")) ∷ [])
    ∷ [])

-- + [LCTRL RCTRL K_A] > 'x'
abbrev pub both_controls_named_rules : Tables
both_controls_named_rules = file []
    (with_keys [] []
    (on_key [] 0x4003 65 (puts (codes "x")) ∷ [])
    ∷ [])

-- + [RALT K_A] > 'x'
abbrev pub one_side_held_twice_rules : Tables
one_side_held_twice_rules = file []
    (with_keys [] []
    (on_key [] 0x4008 65 (puts (codes "x")) ∷ [])
    ∷ [])

-- + '5' > 'x'; + '+' > 'y'
abbrev pub keypad_rule_rules : Tables
keypad_rule_rules = file []
    (with_keys [] []
    (on_char [] (byte "5") (puts (codes "x"))
    ∷ on_char [] (byte "+") (puts (codes "y")) ∷ [])
    ∷ [])

-- + [K_NP5] > 'x'
abbrev pub keypad_named_rules : Tables
keypad_named_rules = file []
    (with_keys [] []
    (on_key [] 0x4000 101 (puts (codes "x")) ∷ [])
    ∷ [])

-- 'a' + [U_00E1] > 'X'
abbrev pub own_without_rule_rules : Tables
own_without_rule_rules = file (dictionary (codes "U_00E1") ∷ [])
    (with_keys [] []
    (on_key (reads (codes "a")) 0x4000 256 (puts (codes "X")) ∷ [])
    ∷ [])

-- 'a' + [T_x] > 'X'
abbrev pub own_eaten_rules : Tables
own_eaten_rules = file (dictionary (codes "T_x") ∷ [])
    (with_keys [] []
    (on_key (reads (codes "a")) 0x4000 256 (puts (codes "X")) ∷ [])
    ∷ [])

-- + 'a' > 'x'; nomatch > 'n'
abbrev pub nomatch_on_keys_rules : Tables
nomatch_on_keys_rules = file []
    (with_keys [] (puts (codes "n"))
    (on_char [] (byte "a") (puts (codes "x")) ∷ [])
    ∷ [])

-- + 'a' > 'x'; nomatch > nul
abbrev pub nomatch_nul_on_keys_rules : Tables
nomatch_nul_on_keys_rules = file []
    (with_keys [] (output.Nul ∷ [])
    (on_char [] (byte "a") (puts (codes "x")) ∷ [])
    ∷ [])

-- group(main) without keys; 'q' > 'r'; nomatch > 'n'
abbrev pub nomatch_without_keys_rules : Tables
nomatch_without_keys_rules = file []
    (without_keys [] (puts (codes "n"))
    (without_key (reads (codes "q")) (puts (codes "r")) ∷ [])
    ∷ [])

-- the texts after the presses, and which presses were passed on
pub record AreWorkedKeys : Type 0 where
  -- control with a side of control, and alt with a side of alt, fit nothing
  pub ctrl_and_its_side : BothType ctrl_and_its_side_rules (held 0x1 65 ∷ held 0x8 66 ∷ [])
      [] (codes "11")
  -- nor does control with a side of alt
  pub ctrl_with_ralt : BothType ctrl_with_ralt_rules (held 0x9 65 ∷ held 0xA 65 ∷ [])
      [] (codes "11")
  -- nor does alt with a side of control
  pub alt_with_lctrl : BothType alt_with_lctrl_rules (held 0x5 65 ∷ [])
      [] (codes "1")
  -- named sides fit exactly these sides
  pub sides_named : BothType sides_named_rules (held 0x5 65 ∷ held 0xA 65 ∷ held 0x6 65 ∷ [])
      (codes "xy") (codes "001")
  -- the left control and the right alt also fit if only the right alt is held
  pub altgr : BothType altgr_rules (held 0x8 65 ∷ held 0x9 65 ∷ [])
      (codes "xx") (codes "00")
  -- with shift they do not
  pub altgr_shift : BothType altgr_shift_rules (held 0x18 65 ∷ held 0x19 65 ∷ [])
      (codes "x") (codes "10")
  -- with caps lock they do
  pub altgr_caps : BothType altgr_caps_rules (held 0x108 65 ∷ held 0x8 65 ∷ [])
      (codes "x") (codes "01")
  -- control does not fit both of its sides
  pub both_controls_held : BothType both_controls_held_rules (held 0x1 65 ∷ held 0x3 65 ∷ [])
      (codes "x") (codes "01")
  -- a rule that names both sides of control fits nothing
  pub both_controls_named : BothType both_controls_named_rules (held 0x3 65 ∷ [])
      [] (codes "1")
  -- both sides of alt fit no rule
  pub one_side_held_twice : BothType one_side_held_twice_rules (held 0xC 65 ∷ held 0x8 65 ∷ [])
      (codes "x") (codes "10")
  -- a key of the keypad produces no character
  pub keypad_rule : BothType keypad_rule_rules (press 53 ∷ press 101 ∷ press 107 ∷ [])
      (codes "x") (codes "011")
  -- a rule can name a key of the keypad
  pub keypad_named : BothType keypad_named_rules (press 101 ∷ [])
      (codes "x") (codes "0")
  -- a key of the keyboard that no rule takes is passed on
  pub own_without_rule : BothType own_without_rule_rules (press 256 ∷ keys (codes "A") ++ (press 256 ∷ []))
      (codes "X") (codes "100")
  -- so is one whose name has no characters
  pub own_eaten : BothType own_eaten_rules (press 256 ∷ keys (codes "A") ++ (press 256 ∷ []))
      (codes "X") (codes "100")
  -- in a group with keys nomatch is not done for K_BKSP, which deletes, and K_F5, which is passed on
  pub nomatch_on_keys : BothType nomatch_on_keys_rules (keys (codes "A") ++ (press 8 ∷ press 116 ∷ []))
      [] (codes "001")
  -- a nomatch output that does nothing is not done either
  pub nomatch_nul_on_keys : BothType nomatch_nul_on_keys_rules (keys (codes "A") ++ (press 8 ∷ []))
      [] (codes "00")
  -- in a group without keys nomatch is done for each press
  pub nomatch_without_keys : BothType nomatch_without_keys_rules (keys (codes "A") ++ (press 8 ∷ press 116 ∷ []))
      (codes "nnn") (codes "000")
