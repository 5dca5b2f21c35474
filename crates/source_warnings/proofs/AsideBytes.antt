-- The words for other programs of a source, by its length and its bytes.
use Rattle.std.proofs.Common.{◌≡◌, ◌<◌, ◌≤◌, ℕ, Bool, true, false, List, [], length, flat_map, refl, sym, ap, ◌∙◌, arith}
use Rattle.std.specs.Prelude.{nat_lt, not, if◌then◌else◌}
use Rattle.std.specs.Str.{is_utf8, IsUtf8}
use Rattle.std.proofs.lemmas.Str.{IsUtf8-from_is_utf8, is_utf8-from_IsUtf8}
use Rattle.std.proofs.lemmas.Bool.Decides.{nat_tests}
use Rattle.kmn_base.specs.declared.limits.TheConstants.{TEXT_BYTES}
use Rattle.kmn_lines.specs.Lines.{logicals}
use Rattle.source_warnings.specs.Aside.{aside_words, line_aside}

is_long : (n : ℕ) → TEXT_BYTES < n → nat_lt TEXT_BYTES n ≡ true
is_long n h = grind (arith, nat_tests)

is_short : (n : ℕ) → n ≤ TEXT_BYTES → nat_lt TEXT_BYTES n ≡ false
is_short n h = grind (arith, nat_tests)

-- a source that is too long has none
pub long_has_none : (source : List ℕ) → TEXT_BYTES < length source → aside_words source ≡ []
unfolding aside_words
long_has_none source long =
    λ j. if is_long (length source) long j then [] else (if not (is_utf8 source) then [] else flat_map (line_aside source) (logicals source))

not_utf8 : (source : List ℕ) → (IsUtf8 source → ⊥) → is_utf8 source ≡ false
not_utf8 source none = by (is_utf8 source) refl
  where
    by : (t : Bool) → is_utf8 source ≡ t → is_utf8 source ≡ false
    by true is = absurd (none (IsUtf8-from_is_utf8 source is))
    by false is = is

other_bytes : (source : List ℕ) → length source ≤ TEXT_BYTES → is_utf8 source ≡ false → aside_words source ≡ []
unfolding aside_words
other_bytes source short none =
    λ j. if is_short (length source) short j then [] else (if not (none j) then [] else flat_map (line_aside source) (logicals source))

-- a source that is not in UTF-8 has none
pub bytes_have_none : (source : List ℕ) → length source ≤ TEXT_BYTES → (IsUtf8 source → ⊥) → [] ≡ aside_words source
bytes_have_none source short none = sym (other_bytes source short (not_utf8 source none))

plain_text : (source : List ℕ) → length source ≤ TEXT_BYTES → is_utf8 source ≡ true → aside_words source ≡ flat_map (line_aside source) (logicals source)
unfolding aside_words
plain_text source short text =
    λ j. if is_short (length source) short j then [] else (if not (text j) then [] else flat_map (line_aside source) (logicals source))

-- a text has those of its lines
pub text_is : (source text : List ℕ) → length source ≤ TEXT_BYTES → text ≡ source → IsUtf8 source → flat_map (line_aside text) (logicals text) ≡ aside_words source
text_is source text short same utf8 =
    ap (λ bytes. flat_map (line_aside bytes) (logicals bytes)) same ∙ sym (plain_text source short (is_utf8-from_IsUtf8 source utf8))
