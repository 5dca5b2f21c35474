-- What Keyman's own engine and this product share, and what the definitions of the engine compute.
use Rattle.std.specs.Prelude.{◌≡◌, ℕ, ◌<◌, ◌≤◌, ◌&&◌, true, false, List, [], ◌∷◌, ◌++◌, drop}
use Rattle.kmn_base.specs.declared.items.Item.{Item}
use Rattle.kmn_base.specs.declared.keys.KeyPress.{KeyPress}
use Rattle.kmn_base.specs.declared.keys.RuleKey.{RuleKey}
use Rattle.kmn_base.specs.declared.keys.RuleKey.TheVariants.{Any, Char, Virtual}
use Rattle.virtual_keys.specs.Fits.{key_fits}
use Rattle.core_meaning.specs.Events.{units, window_of}
use Rattle.core_meaning.specs.Keys.{is_keypad, has_both_sides, has_side, names_either, names_alt_gr, core_key_fits}

-- a window is an end of items, has at most 63 units, and each longer end has more
pub record IsLongestEnd (items window : List Item) : Type 0 where
  pub cut : ℕ
  pub is_end : window ≡ drop cut items
  pub fits : units window ≤ 63
  pub longest : (fewer : ℕ) → fewer < cut → 63 < units (drop fewer items)

-- the window of items is their longest end of at most 63 units
abbrev pub WindowIsLongestEnd : Type 0
WindowIsLongestEnd = (items : List Item) → IsLongestEnd items (window_of items)

-- after a put, the window of the old window is that of the whole text
abbrev pub WindowOfPut : Type 0
WindowOfPut = (items : List Item) (x : Item) → window_of (window_of items ++ x ∷ []) ≡ window_of (items ++ x ∷ [])

-- an end of at most 63 units is seen whole
pub record IsSeenWhole (items end : List Item) : Type 0 where
  pub before : List Item
  pub parts : window_of (items ++ end) ≡ before ++ end

abbrev pub ShortEndsAreSeen : Type 0
ShortEndsAreSeen = (items end : List Item) → units end ≤ 63 → IsSeenWhole items end

-- flags that name control or alt together with a side of either fit no press
abbrev pub TwiceNamedFitNothing : Type 0
TwiceNamedFitNothing = (flags code : ℕ) (press : KeyPress) → (names_either flags && has_side flags) ≡ true → core_key_fits (Virtual flags code) press ≡ false

-- a press that holds both sides of control or of alt fits no virtual key
abbrev pub BothSidesHeldFitNothing : Type 0
BothSidesHeldFitNothing = (flags code : ℕ) (press : KeyPress) → has_both_sides press.mods ≡ true → core_key_fits (Virtual flags code) press ≡ false

-- a press holds not both sides of control or of alt, and its key is not of the keypad
pub record IsCommonPress (press : KeyPress) : Type 0 where
  pub one_side : has_both_sides press.mods ≡ false
  pub no_keypad : is_keypad press.code ≡ false

-- flags don't name control or alt together with a side of either, and are not LCTRL RALT without SHIFT
pub record AreCommonFlags (flags : ℕ) : Type 0 where
  pub sides : (names_either flags && has_side flags) ≡ false
  pub right : names_alt_gr flags ≡ false

-- the key of a rule has such flags, if it has any
abbrev pub IsCommonKey : RuleKey → Type 0
IsCommonKey Any = Unit {0}
IsCommonKey (Char c) = Unit {0}
IsCommonKey (Virtual flags code) = AreCommonFlags flags

-- such keys fit such presses exactly where they do in this product
abbrev pub CommonKeysFitAlike : Type 0
CommonKeysFitAlike = (key : RuleKey) (press : KeyPress) → IsCommonKey key → IsCommonPress press → core_key_fits key press ≡ key_fits key press
