-- How contracts model an editor, and its text after a key that was passed on.
use Rattle.std.specs.Prelude.{◌≡◌, ℕ, List, ◌++◌, take, drop, if◌then◌else◌}
use Rattle.kmn_base.specs.declared.keys.KeyPress.{KeyPress}
use Rattle.virtual_keys.specs.Fits.{is_plain}
use Rattle.rule_model.specs.Event.{editor_left, editor_right}

-- the text before the caret, the text after it, and the number of further characters for which there is spare room
pub record EditorText : Type 0 where
  pub left : List ℕ
  pub right : List ℕ
  pub spare : ℕ

-- the whole text
abbrev pub whole : EditorText → List ℕ
whole editor = editor.left ++ editor.right

-- an editor has a text with the caret at a position of it
pub record IsAt (text : List ℕ) (caret : ℕ) (editor : EditorText) : Type 0 where
  pub left : editor.left ≡ take caret text
  pub right : editor.right ≡ drop caret text

-- an editor has the text and the caret of another editor; the spare room may differ
pub record HasTextOf (other editor : EditorText) : Type 0 where
  pub left : editor.left ≡ other.left
  pub right : editor.right ≡ other.right

-- the text before the caret after a key that was passed on; a key with control or alt changes neither the text nor the caret
abbrev pub left_after : KeyPress → List ℕ → List ℕ → List ℕ
left_after press left right = if is_plain press then editor_left press.code left right else left

-- the text after the caret after a key that was passed on
abbrev pub right_after : KeyPress → List ℕ → List ℕ → List ℕ
right_after press left right = if is_plain press then editor_right press.code left right else right
