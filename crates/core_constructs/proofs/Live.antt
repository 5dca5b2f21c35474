-- The live items of an output, and of an output with another one after it.
use Rattle.std.proofs.Common.{◌≡◌, ℕ, suc, Bool, true, false, ◌||◌, if◌then◌else◌, List, [], ◌∷◌, ◌++◌, take, flat_map, refl, ap, sym, ◌∙◌}
use Rattle.std.specs.List.{fold, list_any}
use Rattle.std.specs.Ordering.{nat_cmp}
use Rattle.std.specs.BTreeSet.{insert_key}
use Rattle.std.proofs.lemmas.List.Concat.{flat_map-append}
use Rattle.std.proofs.lemmas.List.Sums.{fold-append}
use Rattle.rule_model.specs.declared.tables.Out.{Out}
use Rattle.core_constructs.specs.Outputs.{is_return, live, live_count}
use Rattle.core_constructs.specs.Reached.{entered}
use Rattle.core_constructs.proofs.Saved.{append_none}

-- the first items, as many as run, are the live items
pub live_taken : (xs : List Out) → take (live_count xs) xs ≡ live xs
live_taken [] = refl
live_taken (x ∷ xs) = by (is_return x) (live_taken xs)
  where
    by : (b : Bool) → take (live_count xs) xs ≡ live xs → take (if b then 1 else suc (live_count xs)) (x ∷ xs) ≡ (if b then x ∷ [] else x ∷ live xs)
    by true rest = refl
    by false rest = ap (λ list. x ∷ list) rest

-- nothing runs after an output with a `return`
live_ended : (xs ys : List Out) → list_any is_return xs ≡ true → live (xs ++ ys) ≡ live xs
live_ended [] ys h = absurd (cc)
live_ended (x ∷ xs) ys h = by (is_return x) (live_ended xs ys) h
  where
    by : (b : Bool) → (list_any is_return xs ≡ true → live (xs ++ ys) ≡ live xs) → (b || list_any is_return xs) ≡ true
        → (if b then x ∷ [] else x ∷ live (xs ++ ys)) ≡ (if b then x ∷ [] else x ∷ live xs)
    by true rest h = refl
    by false rest h = ap (λ list. x ∷ list) (rest h)

-- after an output without a `return`, the next output runs
live_on : (xs ys : List Out) → list_any is_return xs ≡ false → live (xs ++ ys) ≡ live xs ++ live ys
live_on [] ys h = refl
live_on (x ∷ xs) ys h = by (is_return x) (live_on xs ys) h
  where
    by : (b : Bool) → (list_any is_return xs ≡ false → live (xs ++ ys) ≡ live xs ++ live ys) → (b || list_any is_return xs) ≡ false
        → (if b then x ∷ [] else x ∷ live (xs ++ ys)) ≡ (if b then x ∷ [] else x ∷ live xs) ++ live ys
    by true rest h = absurd (cc)
    by false rest h = ap (λ list. x ∷ list) (rest h)

-- the groups that both outputs enter
pub entered_ended : (set : List ℕ) (xs ys : List Out) → list_any is_return xs ≡ true
    → fold (insert_key nat_cmp) set (flat_map entered (live (xs ++ ys))) ≡ fold (insert_key nat_cmp) set (flat_map entered (live xs))
entered_ended set xs ys h = ap (λ items. fold (insert_key nat_cmp) set (flat_map entered items)) (live_ended xs ys h)

pub entered_on : (set : List ℕ) (xs ys : List Out) → list_any is_return xs ≡ false
    → fold (insert_key nat_cmp) set (flat_map entered (live (xs ++ ys))) ≡ fold (insert_key nat_cmp) (fold (insert_key nat_cmp) set (flat_map entered (live xs))) (flat_map entered (live ys))
entered_on set xs ys h =
    ap (λ items. fold (insert_key nat_cmp) set (flat_map entered items)) (live_on xs ys h)
    ∙ ap (fold (insert_key nat_cmp) set) (flat_map-append entered (live xs) (live ys))
    ∙ fold-append (insert_key nat_cmp) set (flat_map entered (live xs)) (flat_map entered (live ys))

-- the items that are played: the live items of an output, and those of the match output if it has no `return`
pub played_ended : (xs ys : List Out) → list_any is_return xs ≡ true → live (xs ++ ys) ≡ live xs ++ []
played_ended xs ys h = live_ended xs ys h ∙ sym (append_none (live xs))

pub played_on : (xs ys : List Out) → list_any is_return xs ≡ false → live (xs ++ ys) ≡ live xs ++ live ys
played_on xs ys h = live_on xs ys h
