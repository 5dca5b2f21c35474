-- The common prefix of two texts, and the number of caught items.
use Rattle.std.proofs.Common.{◌≡◌, ℕ, suc, ◌+◌, ◌≤◌, true, false, cond, List, [], ◌∷◌, length, drop, Option, Some, None, refl, sym, ap, ◌∙◌, arith}
use Rattle.std.proofs.lemmas.List.{drop_all}
use Rattle.std.proofs.lemmas.List.Sums.{sum_by-cons}
use Rattle.std.specs.Prelude.{nat_eq, is_some, filter_map}
use Rattle.std.specs.List.{cons_option, count_by, common_prefix_len}

-- if one text ends, the common prefix ends
pub common_prefix_ended : (count : ℕ) (old new : List ℕ) → length old ≤ count → common_prefix_len nat_eq (drop count old) (drop count new) ≡ 0
common_prefix_ended count old new e = ap (λ xs. common_prefix_len nat_eq xs (drop count new)) (drop_all count old e)

nothing_alike : (xs : List ℕ) → common_prefix_len nat_eq xs [] ≡ 0
nothing_alike [] = refl
nothing_alike (x ∷ xs) = refl

pub common_prefix_other_ended : (count : ℕ) (old new : List ℕ) → length new ≤ count → common_prefix_len nat_eq (drop count old) (drop count new) ≡ 0
common_prefix_other_ended count old new e = ap (common_prefix_len nat_eq (drop count old)) (drop_all count new e) ∙ nothing_alike (drop count old)

caught_one : {Y : Type 0} (y : Option Y) (ys : List Y) → length (cons_option y ys) ≡ cond (is_some y) 1 0 + length ys
caught_one None ys = omega arith
caught_one (Some y) ys = omega arith

-- the number of caught items is the number of catches with an item
pub length_filter_map : {X Y : Type 0} (f : X → Option Y) (xs : List X) → length (filter_map f xs) ≡ count_by (λ x. is_some (f x)) xs
length_filter_map f [] = refl
length_filter_map f (x ∷ xs) = caught_one (f x) (filter_map f xs) ∙ ap (λ n. cond (is_some (f x)) 1 0 + n) (length_filter_map f xs) ∙ sym (sum_by-cons (λ x. cond (is_some (f x)) 1 0) x xs)

-- the common prefix of two texts is not longer than the first
pub common_prefix_bound : (old new : List ℕ) → common_prefix_len nat_eq old new ≤ length old
common_prefix_bound [] new = omega arith
common_prefix_bound (x ∷ xs) [] = omega arith
common_prefix_bound (x ∷ xs) (y ∷ ys) =
    let behind = common_prefix_bound xs ys in
    elim (nat_eq x y) as (λ t. cond t (1 + common_prefix_len nat_eq xs ys) 0 ≤ suc (length xs)) [ true ↦ omega arith | false ↦ omega arith ]
