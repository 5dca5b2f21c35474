-- The words of the checksum and of the version after they are replaced.
use Rattle.std.proofs.Common.{◌≡◌, ℕ, ◌^◌, ◌<◌, ◌≤◌, List, length, sym, ap, ◌∙◌, arith}
use Rattle.kmx_format.specs.declared.places.TheConstants.{CHECKSUM_AT, VERSION_AT}
use Rattle.kmx_format.specs.TablesOf.{word_at}
use Rattle.file_conversions.specs.Words.{with_word}
use Rattle.file_conversions.proofs.ReplacedWords.{length-with_word, read_there, read_before, overwritten}
use Rattle.core_export.specs.Checksum.{checksum}

-- the checksum that is written into its word is that of the bytes with 0 there
pub sum_stands : (bytes out : List ℕ) (sum : ℕ) → sum < 2 ^ 32 → sum ≡ checksum (with_word CHECKSUM_AT 0 bytes) → out ≡ with_word CHECKSUM_AT sum (with_word CHECKSUM_AT 0 bytes) → 12 ≤ length out
    → word_at out CHECKSUM_AT ≡ checksum (with_word CHECKSUM_AT 0 out)
sum_stands bytes out sum below is out_is long =
    let blank : List ℕ = with_word CHECKSUM_AT 0 bytes in
    let size : length out ≡ length blank = ap length out_is ∙ length-with_word CHECKSUM_AT sum blank in
    let blank_size : length blank ≡ length bytes = length-with_word CHECKSUM_AT 0 bytes in
    ap (λ (xs : List ℕ). word_at xs CHECKSUM_AT) out_is ∙ read_there CHECKSUM_AT sum blank below (omega (arith, size, long)) ∙ is
    ∙ ap checksum (sym (ap (with_word CHECKSUM_AT 0) out_is ∙ overwritten CHECKSUM_AT sum 0 blank (omega (arith, size, long)) ∙ overwritten CHECKSUM_AT 0 0 bytes (omega (arith, size, long, blank_size))))

-- the version that is written into its word is read there
pub version_stands : (bytes out : List ℕ) (version sum : ℕ) → version < 2 ^ 32 → out ≡ with_word CHECKSUM_AT sum (with_word CHECKSUM_AT 0 (with_word VERSION_AT version bytes)) → 12 ≤ length out
    → word_at out VERSION_AT ≡ version
version_stands bytes out version sum below out_is long =
    let first : List ℕ = with_word VERSION_AT version bytes in
    let second : List ℕ = with_word CHECKSUM_AT 0 first in
    let size : length out ≡ length second = ap length out_is ∙ length-with_word CHECKSUM_AT sum second in
    let second_size : length second ≡ length first = length-with_word CHECKSUM_AT 0 first in
    let first_size : length first ≡ length bytes = length-with_word VERSION_AT version bytes in
    ap (λ (xs : List ℕ). word_at xs VERSION_AT) out_is ∙ read_before CHECKSUM_AT sum VERSION_AT second (omega arith) ∙ read_before CHECKSUM_AT 0 VERSION_AT first (omega arith)
    ∙ read_there 4 version bytes below (omega (arith, size, second_size, first_size, long))
