-- Which part of a conjunction fails if the conjunction fails.
use Rattle.std.proofs.Common.{◌≡◌, Bool, true, false, ◌&&◌, refl}

pub fails-when : (a b : Bool) → (a ≡ true → b ≡ false) → (a && b) ≡ false
fails-when true b h = h refl
fails-when false b h = refl

pub second-fails : (a b : Bool) → a ≡ true → (a && b) ≡ false → b ≡ false
second-fails true b e h = h
second-fails false b e h = absurd (cc)
