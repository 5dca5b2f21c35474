-- The details of refusals of a source, by its length and its bytes.
use Rattle.std.proofs.Common.{◌≡◌, ◌<◌, ◌≤◌, ℕ, Bool, true, false, List, length, map, refl, sym, ap, ◌∙◌, arith}
use Rattle.std.specs.Prelude.{nat_lt, not, if◌then◌else◌}
use Rattle.std.specs.Str.{is_utf8, IsUtf8}
use Rattle.std.specs.Str.Lossy.{utf8_valid_len}
use Rattle.std.proofs.lemmas.Str.{IsUtf8-from_is_utf8, is_utf8-from_IsUtf8}
use Rattle.std.proofs.lemmas.Bool.Decides.{nat_tests}
use Rattle.kmn_base.specs.declared.limits.TheConstants.{TEXT_BYTES}
use Rattle.kmn_base.specs.declared.refusals.Refusal.{Refusal}
use Rattle.refusal_details.specs.Explained.{explained, explained_text, unexplained, unreadable}

is_long : (n : ℕ) → TEXT_BYTES < n → nat_lt TEXT_BYTES n ≡ true
is_long n h = grind (arith, nat_tests)

is_short : (n : ℕ) → n ≤ TEXT_BYTES → nat_lt TEXT_BYTES n ≡ false
is_short n h = grind (arith, nat_tests)

-- in a source that is too long, refusals have no details
pub long_unexplained : (source : List ℕ) (refusals : List Refusal) → TEXT_BYTES < length source → explained source refusals ≡ map unexplained refusals
unfolding explained
long_unexplained source refusals long =
    λ j. if is_long (length source) long j then map unexplained refusals
    else (if not (is_utf8 source) then map (unreadable source (utf8_valid_len source)) refusals else explained_text source refusals)

not_utf8 : (source : List ℕ) → (IsUtf8 source → ⊥) → is_utf8 source ≡ false
not_utf8 source none = by (is_utf8 source) refl
  where
    by : (t : Bool) → is_utf8 source ≡ t → is_utf8 source ≡ false
    by true is = absurd (none (IsUtf8-from_is_utf8 source is))
    by false is = is

other_bytes : (source : List ℕ) (refusals : List Refusal) → length source ≤ TEXT_BYTES → is_utf8 source ≡ false
    → explained source refusals ≡ map (unreadable source (utf8_valid_len source)) refusals
unfolding explained
other_bytes source refusals short none =
    λ j. if is_short (length source) short j then map unexplained refusals
    else (if not (none j) then map (unreadable source (utf8_valid_len source)) refusals else explained_text source refusals)

-- in a source that is not in UTF-8, refusals are at its first byte that is not, and have no details, either
pub bytes_unreadable : (source : List ℕ) (size : ℕ) (refusals : List Refusal) → length source ≤ TEXT_BYTES → (IsUtf8 source → ⊥)
    → size ≡ utf8_valid_len source → map (unreadable source size) refusals ≡ explained source refusals
bytes_unreadable source size refusals short none is =
    ap (λ (n : ℕ). map (unreadable source n) refusals) is ∙ sym (other_bytes source refusals short (not_utf8 source none))

plain_text : (source : List ℕ) (refusals : List Refusal) → length source ≤ TEXT_BYTES → is_utf8 source ≡ true
    → explained source refusals ≡ explained_text source refusals
unfolding explained
plain_text source refusals short text =
    λ j. if is_short (length source) short j then map unexplained refusals
    else (if not (text j) then map (unreadable source (utf8_valid_len source)) refusals else explained_text source refusals)

-- in a text, each refusal has its place and its detail
pub text_is : (source text : List ℕ) (refusals : List Refusal) → length source ≤ TEXT_BYTES → text ≡ source → IsUtf8 source
    → explained_text text refusals ≡ explained source refusals
text_is source text refusals short same utf8 =
    ap (λ (bytes : List ℕ). explained_text bytes refusals) same ∙ sym (plain_text source refusals short (is_utf8-from_IsUtf8 source utf8))
