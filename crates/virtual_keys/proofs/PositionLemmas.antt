-- The first position at which an item of a list passes a test.
use Rattle.std.proofs.Common.{◌≡◌, ℕ, ◌+◌, ◌≤◌, Bool, true, false, not, cond, eqb, nat_lt, List, [], ◌∷◌, ◌++◌, map, length, length-append, Some, None, refl, ap, arith}
use Rattle.std.proofs.lemmas.Bool.Decides.{nat_tests}
use Rattle.std.proofs.lemmas.List.{length-map}
use Rattle.std.proofs.lemmas.List.Elements.{All-head, All-tail}
use Rattle.std.proofs.lemmas.List.Folds.{position_or_len_push}
use Rattle.std.proofs.lemmas.List.Sums.{fails_before_first, prefix_len-le-length}
use Rattle.std.specs.List.{All, position, position_or_len, prefix_len}

prefix_len-map : {X Y : Type 0} (f : X → Y) (q : Y → Bool) (xs : List X) → prefix_len q (map f xs) ≡ prefix_len (λ x. q (f x)) xs
prefix_len-map f q [] = refl
prefix_len-map f q (x ∷ xs) = ap (λ n. cond (q (f x)) (1 + n) 0) (prefix_len-map f q xs)

-- a test of the results of `f` on the items
pub position-map : {X Y : Type 0} (f : X → Y) (q : Y → Bool) (xs : List X) → position q (map f xs) ≡ position (λ x. q (f x)) xs
position-map f q xs =
    let places = prefix_len-map f (λ y. not (q y)) xs in
    let lengths = length-map xs f in
    λ j. cond (nat_lt (places j) (lengths j)) (Some (places j)) None

prefix_len-same : {X : Type 0} (p q : X → Bool) (xs : List X) → All (λ x. p x ≡ q x) xs → prefix_len (λ x. not (p x)) xs ≡ prefix_len (λ x. not (q x)) xs
prefix_len-same p q [] same = refl
prefix_len-same p q (x ∷ xs) same =
    let here = All-head (λ y. p y ≡ q y) x xs same in
    let rest = prefix_len-same p q xs (All-tail (λ y. p y ≡ q y) x xs same) in
    λ j. cond (not (here j)) (1 + rest j) 0

-- two tests that return the same result for each item
pub position-same : {X : Type 0} (p q : X → Bool) (xs : List X) → All (λ x. p x ≡ q x) xs → position p xs ≡ position q xs
position-same p q xs same =
    let places = prefix_len-same p q xs same in
    λ j. cond (nat_lt (places j) (length xs)) (Some (places j)) None

-- a number that is not below another
pub not_below : (a n : ℕ) → cond (nat_lt a n) (Some a) None ≡ None → n ≤ a
not_below a n is = grind (arith, nat_tests)

-- if there is no such position, no item passes
pub none_passes : {X : Type 0} (p : X → Bool) (xs : List X) → position p xs ≡ None → All (λ x. p x ≡ false) xs
none_passes p xs is k d l =
    let far = not_below (position_or_len p xs) (length xs) is in
    fails_before_first p xs k d (omega arith)

pushed : (a b n m : ℕ) (passes : Bool) → n ≤ a → a ≤ n → passes ≡ true → b ≡ cond (eqb a n) (n + cond passes 0 1) a → m ≡ n + 1 → cond (nat_lt b m) (Some b) None ≡ Some n
pushed a b n m passes low high here is more = grind (arith, nat_tests)

-- an item that passes, after items that don't, is the first
pub position-push : {X : Type 0} (p : X → Bool) (xs : List X) (y : X) → position p xs ≡ None → p y ≡ true → position p (xs ++ y ∷ []) ≡ Some (length xs)
position-push p xs y is here =
    let far = not_below (position_or_len p xs) (length xs) is in
    let near = prefix_len-le-length (λ x. not (p x)) xs in
    pushed (position_or_len p xs) (position_or_len p (xs ++ y ∷ [])) (length xs) (length (xs ++ y ∷ [])) (p y) far near here (position_or_len_push p xs y) (length-append xs (y ∷ []))
