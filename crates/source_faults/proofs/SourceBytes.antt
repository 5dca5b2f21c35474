-- The refusals of a source by its length and its bytes.
use Rattle.std.proofs.Common.{◌≡◌, ◌<◌, ◌≤◌, ℕ, Bool, true, false, List, [], ◌∷◌, length, refl, sym, ap, ◌∙◌, arith}
use Rattle.std.specs.Prelude.{nat_lt, not, if◌then◌else◌}
use Rattle.std.specs.Str.{is_utf8, IsUtf8}
use Rattle.std.proofs.lemmas.Str.{IsUtf8-from_is_utf8, is_utf8-from_IsUtf8}
use Rattle.std.proofs.lemmas.Bool.Decides.{nat_tests}
use Rattle.kmn_base.specs.declared.codes.Code.TheVariants.{L01, L05}
use Rattle.kmn_base.specs.declared.limits.TheConstants.{TEXT_BYTES}
use Rattle.kmn_lines.specs.Tokens.{refusal}
use Rattle.source_faults.specs.Reading.{read_all}
use Rattle.source_faults.specs.Faults.{faults, faults_of}

is_long : (n : ℕ) → TEXT_BYTES < n → nat_lt TEXT_BYTES n ≡ true
is_long n h = grind (arith, nat_tests)

is_short : (n : ℕ) → n ≤ TEXT_BYTES → nat_lt TEXT_BYTES n ≡ false
is_short n h = grind (arith, nat_tests)

pub length_is_refused : (source : List ℕ) → TEXT_BYTES < length source → faults source ≡ refusal 1 L05 ∷ []
unfolding faults
length_is_refused source long =
    λ j. if is_long (length source) long j then refusal 1 L05 ∷ [] else (if not (is_utf8 source) then refusal 1 L01 ∷ [] else faults_of (read_all source))

not_utf8 : (source : List ℕ) → (IsUtf8 source → ⊥) → is_utf8 source ≡ false
not_utf8 source none = by (is_utf8 source) refl
  where
    by : (t : Bool) → is_utf8 source ≡ t → is_utf8 source ≡ false
    by true is = absurd (none (IsUtf8-from_is_utf8 source is))
    by false is = is

refused_bytes : (source : List ℕ) → length source ≤ TEXT_BYTES → is_utf8 source ≡ false → faults source ≡ refusal 1 L01 ∷ []
unfolding faults
refused_bytes source short none =
    λ j. if is_short (length source) short j then refusal 1 L05 ∷ [] else (if not (none j) then refusal 1 L01 ∷ [] else faults_of (read_all source))

pub bytes_are_refused : (source : List ℕ) → length source ≤ TEXT_BYTES → (IsUtf8 source → ⊥) → refusal 1 L01 ∷ [] ≡ faults source
bytes_are_refused source short none = sym (refused_bytes source short (not_utf8 source none))

plain_text : (source : List ℕ) → length source ≤ TEXT_BYTES → is_utf8 source ≡ true → faults source ≡ faults_of (read_all source)
unfolding faults
plain_text source short text =
    λ j. if is_short (length source) short j then refusal 1 L05 ∷ [] else (if not (text j) then refusal 1 L01 ∷ [] else faults_of (read_all source))

pub text_is : (source text : List ℕ) → length source ≤ TEXT_BYTES → text ≡ source → IsUtf8 source → faults_of (read_all text) ≡ faults source
text_is source text short same utf8 =
    ap (λ bytes. faults_of (read_all bytes)) same ∙ sym (plain_text source short (is_utf8-from_IsUtf8 source utf8))
