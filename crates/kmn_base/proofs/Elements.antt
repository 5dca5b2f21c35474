-- Items of a list by position, and properties of all elements of a list.
use Rattle.std.proofs.Common.{◌≡◌, ◌≢◌, ℕ, zero, suc, ◌+◌, ◌<◌, ◌≤◌, ◌||◌, Bool, true, List, [], ◌∷◌, ◌++◌, flat_map, length, drop, get_or, set, drop-cons, add-one, refl, ap, sym, ◌∙◌, subst, arith, Option, Some, None}
use Rattle.std.specs.Prelude.{All, slice_get}
use Rattle.std.specs.List.{AllByRecursion, cons_option, list_all, list_any}
use Rattle.std.proofs.lemmas.Bool.{and_parts}
use Rattle.std.proofs.lemmas.List.Elements.{All-nil, All-cons, All-head, All-tail}
use Rattle.std.proofs.lemmas.List.Folds.{list_any-append}
use Rattle.std.proofs.lemmas.Option.{none-some, same_Some}

module _ {X : Type 0} where
  pub slice_get-append_left : (xs ys : List X) (k : ℕ) → k < length xs → slice_get (xs ++ ys) k ≡ slice_get xs k
  slice_get-append_left [] ys k h = absurd (omega arith)
  slice_get-append_left (x ∷ xs) ys zero h = refl
  slice_get-append_left (x ∷ xs) ys (suc k) h = slice_get-append_left xs ys k (omega arith)

  pub slice_get-set_same : (xs : List X) (n : ℕ) (x : X) → n < length xs → slice_get (set xs n x) n ≡ Some x
  slice_get-set_same [] n x within = absurd (omega arith)
  slice_get-set_same (y ∷ xs) zero x within = refl
  slice_get-set_same (y ∷ xs) (suc n) x within = slice_get-set_same xs n x (omega arith)

  pub slice_get-set_other : (xs : List X) (n k : ℕ) (x : X) → k ≢ n → slice_get (set xs n x) k ≡ slice_get xs k
  slice_get-set_other [] n k x other = refl
  slice_get-set_other (y ∷ xs) zero zero x other = absurd (other refl)
  slice_get-set_other (y ∷ xs) zero (suc k) x other = refl
  slice_get-set_other (y ∷ xs) (suc n) zero x other = refl
  slice_get-set_other (y ∷ xs) (suc n) (suc k) x other = slice_get-set_other xs n k x (λ same. other (ap suc same))

  pub drop-next : (xs : List X) (n : ℕ) (d : X) → n < length xs → drop n xs ≡ get_or xs n d ∷ drop (n + 1) xs
  drop-next xs n d h = rw (add-one n) (drop-cons xs n d h)

  pub append_empty : (xs ys : List X) → xs ++ ys ≡ [] → (xs ≡ []) × (ys ≡ [])
  append_empty [] ys h = (refl, h)
  append_empty (x ∷ xs) ys h = absurd (cc)

  pub length-cons_option : (o : Option X) (xs : List X) → length (cons_option o xs) ≤ suc (length xs)
  length-cons_option None xs = omega arith
  length-cons_option (Some x) xs = omega arith

  -- if a property is true for all elements, it is true for the element at each position
  pub AllByRecursion_at : (P : X → Type 0) (xs : List X) (k : ℕ) (x : X) → AllByRecursion P xs → slice_get xs k ≡ Some x → P x
  AllByRecursion_at P [] k x h at = absurd (none-some x at)
  AllByRecursion_at P (y ∷ xs) zero x h at = subst P (same_Some y x at) h.0
  AllByRecursion_at P (y ∷ xs) (suc k) x h at = AllByRecursion_at P xs k x h.1 at

  pub all_at : (test : X → Bool) (xs : List X) (k : ℕ) (x : X) → list_all test xs ≡ true → slice_get xs k ≡ Some x → test x ≡ true
  all_at test [] k x h at = absurd (none-some x at)
  all_at test (y ∷ xs) zero x h at = ap test (sym (same_Some y x at)) ∙ (and_parts (test y) (list_all test xs) h).0
  all_at test (y ∷ xs) (suc k) x h at = all_at test xs k x (and_parts (test y) (list_all test xs) h).1 at

  pub All-append_parts : (P : X → Type 0) (xs ys : List X) → All P (xs ++ ys) → All P xs × All P ys
  All-append_parts P [] ys h = (All-nil P, h)
  All-append_parts P (x ∷ xs) ys h =
      let rest = All-append_parts P xs ys (All-tail P x (xs ++ ys) h) in
      (All-cons P x xs (All-head P x (xs ++ ys) h) rest.0, rest.1)

pub any_flat_map : {X Y : Type 0} (test : Y → Bool) (f : X → List Y) (xs : List X) → list_any test (flat_map f xs) ≡ list_any (λ x. list_any test (f x)) xs
any_flat_map test f [] = refl
any_flat_map test f (x ∷ xs) = list_any-append test (f x) (flat_map f xs) ∙ ap (λ b. list_any test (f x) || b) (any_flat_map test f xs)
