-- The halves of a cased key can be written as the key can.
use Rattle.std.proofs.Common.{◌≡◌, ◌≢◌, ℕ, Bool, true, false, refl, ap, sym, ◌∙◌, arith, if◌then◌else◌, nat_eq}
use Rattle.std.specs.Prelude.{bit_and, bit_or}
use Rattle.std.specs.Int.Bits.{or_add_and}
use Rattle.std.proofs.lemmas.Nat.{and_le_l, and_assoc, and_comm}
use Rattle.kmn_base.specs.declared.keys.TheConstants.{SHIFT_FLAGS}
use Rattle.kmn_base.specs.declared.keys.RuleKey.{RuleKey}
use Rattle.kmn_base.specs.declared.keys.RuleKey.TheVariants as key
use Rattle.virtual_keys.specs.Fits.{shift, caps, no_caps, has}
use Rattle.rule_model.specs.CasedKeys.{small_flags, with_other_shift, large_flags, half_flags}
use Rattle.compile_laws.specs.Compiles.{half_key}
use Rattle.kmx_format.specs.Writable.{IsWritableKey}
use Rattle.kmn_parser.proofs.SoundKeys.{or-within}

-- flags with one more are some
some_with : (flags more : ℕ) → more ≢ 0 → bit_or flags more ≢ 0
some_with flags more some none =
    let sum = or_add_and flags more in
    let part = and_le_l flags more in
    some (omega arith)

-- flags that a file may have, without some of them
masked_within : (flags mask : ℕ) → bit_and flags SHIFT_FLAGS ≡ flags → bit_and (bit_and flags mask) SHIFT_FLAGS ≡ bit_and flags mask
masked_within flags mask known =
    and_assoc SHIFT_FLAGS flags mask
    ∙ ap (bit_and flags) (and_comm mask SHIFT_FLAGS)
    ∙ sym (and_assoc mask flags SHIFT_FLAGS)
    ∙ ap (λ f. bit_and f mask) known

other_shift_within : (flags : ℕ) → bit_and flags SHIFT_FLAGS ≡ flags → bit_and (with_other_shift flags) SHIFT_FLAGS ≡ with_other_shift flags
other_shift_within flags known = by (has flags shift)
  where
    by : (b : Bool) → bit_and (if b then bit_and flags 0xFFFF_FFEF else bit_or flags shift) SHIFT_FLAGS ≡ (if b then bit_and flags 0xFFFF_FFEF else bit_or flags shift)
    by true = masked_within flags 0xFFFF_FFEF known
    by false = or-within flags shift SHIFT_FLAGS known refl

-- the flags of each half
half_some : (half flags : ℕ) → half_flags half flags ≢ 0
half_some half flags = by (nat_eq half 0)
  where
    by : (b : Bool) → (if b then small_flags flags else large_flags flags) ≢ 0
    by true = some_with flags no_caps (λ e. omega (arith, e))
    by false = some_with (with_other_shift flags) caps (λ e. omega (arith, e))

half_within : (half flags : ℕ) → bit_and flags SHIFT_FLAGS ≡ flags → bit_and (half_flags half flags) SHIFT_FLAGS ≡ half_flags half flags
half_within half flags known = by (nat_eq half 0)
  where
    by : (b : Bool) → bit_and (if b then small_flags flags else large_flags flags) SHIFT_FLAGS ≡ (if b then small_flags flags else large_flags flags)
    by true = or-within flags no_caps SHIFT_FLAGS known refl
    by false = or-within (with_other_shift flags) caps SHIFT_FLAGS (other_shift_within flags known) refl

-- the key of a half
pub half_written : (using_keys : Bool) (half : ℕ) (wanted : RuleKey) → IsWritableKey using_keys wanted → IsWritableKey using_keys (half_key half wanted)
half_written false half key.Any is = is
half_written false half (key.Char unit) is = is
half_written false half (key.Virtual flags code) is = absurd is
half_written true half key.Any is = is
half_written true half (key.Char unit) is = is
half_written true half (key.Virtual flags code) is = (half_some half flags, half_within half flags is.1, is.2)
