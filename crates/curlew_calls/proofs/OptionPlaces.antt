-- The list of the stores that are options, one store after the other.
use Rattle.std.proofs.Common.{◌≡◌, ℕ, ◌+◌, ◌≤◌, Bool, true, false, cond, List, [], ◌∷◌, ◌++◌, length, drop, Option, refl, ap}
use Rattle.std.specs.Prelude.{is_some}
use Rattle.std.proofs.lemmas.List.{drop_all}
use Rattle.play_session.specs.Changes.{options_from}

-- a list with an optional first store is that store, if any, followed by the other stores
by_first : (is : Bool) (store : ℕ) (more : List ℕ) → cond is (store ∷ more) more ≡ cond is (store ∷ []) [] ++ more
by_first true store more = refl
by_first false store more = refl

pub option_and_more : (store : ℕ) (number : Option ℕ) (numbers : List (Option ℕ))
    → options_from store (number ∷ numbers) ≡ options_from store (number ∷ []) ++ options_from (store + 1) numbers
option_and_more store number numbers = by_first (is_some number) store (options_from (store + 1) numbers)

-- there are no option stores after the last store
pub no_more_options : (store : ℕ) (numbers : List (Option ℕ)) → length numbers ≤ store → options_from store (drop store numbers) ≡ []
no_more_options store numbers past = ap (options_from store) (drop_all store numbers past)
