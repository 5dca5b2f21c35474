-- The names of the keys with codes below a number that a word means.
use Rattle.std.proofs.Common.{◌≡◌, ℕ, ◌+◌, List, [], ◌++◌, refl, ap, add-one}
use Rattle.virtual_keys.specs.Keys.{key_name}
use Rattle.refusal_details.specs.Keys.{meant_below, meant_key}

pub none_below : (word : List ℕ) → meant_below word 0 ≡ []
unfolding meant_below
none_below word = refl

pub one_more : (word : List ℕ) (code : ℕ) → meant_below word (code + 1) ≡ meant_below word code ++ meant_key word (key_name code)
unfolding meant_below
one_more word code = ap (meant_below word) (add-one code)
