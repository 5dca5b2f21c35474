-- The value of bytes, by whether they are UTF-8.
use Rattle.std.proofs.Common.{◌≡◌, ℕ, List, Some, None, Bool, true, false, refl, sym, subst}
use Rattle.std.specs.Str.{IsUtf8, is_utf8}
use Rattle.std.proofs.lemmas.Str.{is_utf8-from_IsUtf8, IsUtf8-from_is_utf8}
use Rattle.serde_json.specs.Data.{Data}
use Rattle.serde_json.specs.Read.{read}
use Rattle.touch_board.specs.Layers.{value_of}

pub value_in : (bytes text : List ℕ) (d : Data) → IsUtf8 bytes → text ≡ bytes → read text ≡ Some d → Some d ≡ value_of bytes
value_in bytes text d utf8 same is = rw (is_utf8-from_IsUtf8 bytes utf8) (sym (subst (λ t. read t ≡ Some d) same is))

by_test : (bytes : List ℕ) (b : Bool) → is_utf8 bytes ≡ b → (IsUtf8 bytes → ⊥) → None ≡ value_of bytes
by_test bytes true is not_utf8 = absurd (not_utf8 (IsUtf8-from_is_utf8 bytes is))
by_test bytes false is not_utf8 = rw is refl

pub no_value : (bytes : List ℕ) → (IsUtf8 bytes → ⊥) → None ≡ value_of bytes
no_value bytes not_utf8 = by_test bytes (is_utf8 bytes) refl not_utf8
