-- The names of the system stores with ids below a number that a word is like.
use Rattle.std.proofs.Common.{◌≡◌, ℕ, ◌+◌, List, [], ◌++◌, refl, ap, add-one}
use Rattle.refusal_details.specs.Nearest.{like_name}
use Rattle.refusal_details.specs.Systems.{system_name, systems_below}

pub none_below : (word : List ℕ) → systems_below word 0 ≡ []
unfolding systems_below
none_below word = refl

pub one_more : (word : List ℕ) (id : ℕ) → systems_below word (id + 1) ≡ systems_below word id ++ like_name word (system_name id)
unfolding systems_below
one_more word id = ap (systems_below word) (add-one id)
