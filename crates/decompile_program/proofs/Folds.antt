-- Folding over two lists.
use Rattle.std.proofs.Common.{◌≡◌, List, [], ◌∷◌, ◌++◌, refl}
use Rattle.std.specs.Prelude.{fold}

pub fold_append : {A B : Type 0} (f : A → B → A) (start : A) (first second : List B) → fold f start (first ++ second) ≡ fold f (fold f start first) second
fold_append f start [] second = refl
fold_append f start (x ∷ xs) second = fold_append f (f start x) xs second
