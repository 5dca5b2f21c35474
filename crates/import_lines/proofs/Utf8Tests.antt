-- Texts that are short enough and in UTF-8, and bytes that are not.
use Rattle.std.proofs.Common.{◌≡◌, ℕ, ◌≤◌, Bool, true, false, ◌&&◌, List, length, refl, arith}
use Rattle.std.specs.Prelude.{IsUtf8, nat_le}
use Rattle.std.specs.Str.{is_utf8}
use Rattle.std.proofs.lemmas.Bool.Decides.{nat_tests}
use Rattle.std.proofs.lemmas.Str.{is_utf8-from_IsUtf8, IsUtf8-from_is_utf8}
use Rattle.kmn_base.specs.declared.limits.TheConstants.{TEXT_BYTES}

both_pass : (a b rest : Bool) → a ≡ true → b ≡ true → (a && b && rest) ≡ rest
both_pass true true rest first second = refl
both_pass true false rest first second = absurd cc
both_pass false b rest first second = absurd cc

second_fails : (a b rest : Bool) → ¬ (b ≡ true) → (a && b && rest) ≡ false
second_fails a true rest other = absurd (other refl)
second_fails true false rest other = refl
second_fails false false rest other = refl

-- a text passes both tests
pub text_passes : (bytes : List ℕ) (rest : Bool) → length bytes ≤ TEXT_BYTES → IsUtf8 bytes → (nat_le (length bytes) TEXT_BYTES && is_utf8 bytes && rest) ≡ rest
text_passes bytes rest few text =
    let short : nat_le (length bytes) TEXT_BYTES ≡ true = grind (arith, nat_tests) in
    both_pass (nat_le (length bytes) TEXT_BYTES) (is_utf8 bytes) rest short (is_utf8-from_IsUtf8 bytes text)

-- other bytes do not
pub other_fails : (bytes : List ℕ) (rest : Bool) → ¬ (IsUtf8 bytes) → (nat_le (length bytes) TEXT_BYTES && is_utf8 bytes && rest) ≡ false
other_fails bytes rest other = second_fails (nat_le (length bytes) TEXT_BYTES) (is_utf8 bytes) rest (λ e. other (IsUtf8-from_is_utf8 bytes e))
