-- Optional values.
use Rattle.std.proofs.Common.{◌≡◌, ℕ, Bool, true, false, if◌then◌else◌, refl, Option, Some, None}
use Rattle.std.specs.Prelude.{is_some}
use Rattle.std.specs.Option.{option_or}

-- if the first value of two options is None, both are None
pub option_or-none : {X : Type 0} (first second : Option X) → option_or first second ≡ None → (first ≡ None) × (second ≡ None)
option_or-none None second h = (refl, h)
option_or-none (Some x) second h = absurd (cc)

pub is_some-if : (b : Bool) (n : ℕ) → is_some (if b then Some n else None) ≡ b
is_some-if true n = refl
is_some-if false n = refl
