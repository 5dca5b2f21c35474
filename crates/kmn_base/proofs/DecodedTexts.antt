-- A text in UTF-8 is decoded; any other text has no characters.
use Rattle.std.proofs.Common.{◌≡◌, ℕ, List, [], ap, refl, Bool, true, false, if◌then◌else◌}
use Rattle.std.specs.Prelude.{IsUtf8, chars}
use Rattle.std.specs.Str.{is_utf8}
use Rattle.std.proofs.lemmas.Str.{is_utf8-from_IsUtf8, IsUtf8-from_is_utf8}
use Rattle.kmn_base.specs.Texts.{decoded}

pub decoded_text : (bytes : List ℕ) → IsUtf8 bytes → decoded bytes ≡ chars bytes
decoded_text bytes text = ap (λ b. if b then chars bytes else []) (is_utf8-from_IsUtf8 bytes text)

cond_other : (b : Bool) (xs : List ℕ) → ¬ (b ≡ true) → (if b then xs else []) ≡ []
cond_other true xs other = absurd (other refl)
cond_other false xs other = refl

pub decoded_other : (bytes : List ℕ) → ¬ (IsUtf8 bytes) → decoded bytes ≡ []
decoded_other bytes other = cond_other (is_utf8 bytes) (chars bytes) (λ e. other (IsUtf8-from_is_utf8 bytes e))
