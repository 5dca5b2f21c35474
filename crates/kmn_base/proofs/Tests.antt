-- The result of two nested `if`s: the second test fails, or both succeed.
use Rattle.std.proofs.Common.{◌≡◌, Bool, true, false, not, if◌then◌else◌, refl}

pub second_fails : {X : Type 0} (long sound : Bool) (a b c : X) → long ≡ false → ¬ (sound ≡ true) → (if long then a else (if not sound then b else c)) ≡ b
second_fails true sound a b c e f = absurd (cc)
second_fails false true a b c e f = absurd (f refl)
second_fails false false a b c e f = refl

pub both_hold : {X : Type 0} (long sound : Bool) (a b c : X) → long ≡ false → sound ≡ true → (if long then a else (if not sound then b else c)) ≡ c
both_hold true sound a b c e f = absurd (cc)
both_hold false true a b c e f = refl
both_hold false false a b c e f = absurd (cc)
