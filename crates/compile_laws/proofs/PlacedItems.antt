-- The first position that passes a test, and the item at it.
use Rattle.std.proofs.Common.{◌≡◌, ℕ, ◌<◌, Bool, true, List, [], ◌∷◌, length, get_or, Option, Some, None, refl, is_some}
use Rattle.std.specs.Prelude.{slice_get, position}
use Rattle.std.proofs.lemmas.List.Quantifiers.{position-Some}
use Rattle.std.proofs.lemmas.Option.{slice_get-get_or, none-some}
use Rattle.std.proofs.lemmas.Bool.{false≢true}

-- the item at a first position
pub record FirstPlace {X : Type 0} (p : X → Bool) (xs : List X) (k : ℕ) : Type 0 where
  pub item : X
  pub reads : slice_get xs k ≡ Some item
  pub passes : p item ≡ true
  pub within : k < length xs

pub first_place : {X : Type 0} (p : X → Bool) (xs : List X) (k : ℕ) → position p xs ≡ Some k → FirstPlace p xs k
first_place p [] k e = absurd (none-some k e)
first_place p (x ∷ xs) k e =
    let found = position-Some p (x ∷ xs) k x e in
    record { item = get_or (x ∷ xs) k x; reads = slice_get-get_or (x ∷ xs) k x found.0; passes = found.1; within = found.0 }

-- the value of an option that is not None
pub at_place : {X : Type 0} (o : Option X) → is_some o ≡ true → (x : X) × (o ≡ Some x)
at_place None h = absurd (false≢true h)
at_place (Some x) h = (x, refl)
