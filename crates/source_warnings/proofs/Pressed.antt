-- The characters of the keys with codes below a number.
use Rattle.std.proofs.Common.{◌≡◌, ℕ, ◌+◌, [], refl, ap, add-one}
use Rattle.source_warnings.specs.Keys.{characters_below, with_code}

pub none_below : characters_below 0 ≡ []
unfolding characters_below
none_below = refl

pub one_more : (code : ℕ) → characters_below (code + 1) ≡ with_code (characters_below code) code
unfolding characters_below
one_more code = ap characters_below (add-one code)
