-- The order of tests does not change their result.
use Rattle.std.proofs.Common.{◌≡◌, Bool, true, false, refl}
use Rattle.std.specs.Prelude.{◌&&◌}

-- of four tests the last can be made first, and the third before the second
pub asked_first : (a b c d : Bool) → (d && (a && (c && b))) ≡ (a && (b && (c && d)))
asked_first true true c true = refl
asked_first true false true true = refl
asked_first true false false true = refl
asked_first false b c true = refl
asked_first true true true false = refl
asked_first true true false false = refl
asked_first true false c false = refl
asked_first false b c false = refl
