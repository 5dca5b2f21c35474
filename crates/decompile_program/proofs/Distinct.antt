-- Distinct names: each is kept once and found at its place.
use Rattle.std.proofs.Common.{◌≡◌, ℕ, zero, suc, ◌+◌, ◌<◌, Bool, true, false, ◌||◌, List, [], ◌∷◌, ◌++◌, map, Some, refl, sym, ◌∙◌, ap, arith, append_assoc, append-nil, if◌then◌else◌}
use Rattle.std.specs.Prelude.{slice_get, position, option_map}
use Rattle.std.specs.List.{list_any, AllByRecursion, range_with_len}
use Rattle.std.specs.Fmt.{decimal}
use Rattle.std.proofs.lemmas.Option.{none-some, same_Some}
use Rattle.std.proofs.lemmas.Bool.{cond-true, cond-false, or_parts, or_right}
use Rattle.kmn_base.specs.Names.{same_name}
use Rattle.rule_model.specs.Tab.{distinct_onto}
use Rattle.virtual_keys.proofs.NamePlaces.{position_cons}
use Rattle.decompile_program.proofs.Apart.{Differs}
use Rattle.virtual_keys.proofs.NamePlaces.{same_name-self}
use Rattle.decompile_program.proofs.Free.{AreDistinct}

-- a name is the same as one of a list
abbrev pub Among : List (List ℕ) → List ℕ → Type 0
Among names x = list_any (λ y. same_name y x) names ≡ true

-- if names are distinct, none before a name is the same as it
none-same : (xs : List (List ℕ)) (y : List ℕ) (ys : List (List ℕ)) → AreDistinct (xs ++ y ∷ ys) → list_any (λ x. same_name x y) xs ≡ false
none-same [] y ys d = refl
none-same (x ∷ xs) y ys d = ap (λ b. b || list_any (λ x. same_name x y) xs) (inside xs d.0) ∙ none-same xs y ys d.1
  where
    inside : (xs : List (List ℕ)) → Differs x (xs ++ y ∷ ys) → same_name x y ≡ false
    inside [] d = d.0
    inside (z ∷ xs) d = inside xs d.1

-- if names are distinct, all of them are kept
pub distinct-stays : (seen xs : List (List ℕ)) → AreDistinct (seen ++ xs) → distinct_onto same_name seen xs ≡ seen ++ xs
distinct-stays seen [] d = sym (append-nil seen)
distinct-stays seen (x ∷ xs) d =
    (λ i. distinct_onto same_name (if none-same seen x xs d i then seen else seen ++ x ∷ []) xs)
    ∙ (distinct-stays (seen ++ x ∷ []) xs (again seen d) ∙ append_assoc seen (x ∷ []) xs)
  where
    again : (seen : List (List ℕ)) → AreDistinct (seen ++ x ∷ xs) → AreDistinct ((seen ++ x ∷ []) ++ xs)
    again [] d = d
    again (y ∷ seen) d = (all seen d.0, again seen d.1)
      where
        all : (seen : List (List ℕ)) → Differs y (seen ++ x ∷ xs) → Differs y ((seen ++ x ∷ []) ++ xs)
        all [] d = d
        all (z ∷ seen) d = (d.0, all seen d.1)

-- if names are among those seen, they are not added
pub distinct-adds_none : (seen xs : List (List ℕ)) → AllByRecursion (Among seen) xs → distinct_onto same_name seen xs ≡ seen
distinct-adds_none seen [] all = refl
distinct-adds_none seen (x ∷ xs) all = (λ i. distinct_onto same_name (if all.0 i then seen else seen ++ x ∷ []) xs) ∙ distinct-adds_none seen xs all.1

distinct-append : (seen xs ys : List (List ℕ)) → distinct_onto same_name seen (xs ++ ys) ≡ distinct_onto same_name (distinct_onto same_name seen xs) ys
distinct-append seen [] ys = refl
distinct-append seen (x ∷ xs) ys = distinct-append (if list_any (λ y. same_name y x) seen then seen else seen ++ x ∷ []) xs ys

-- if names are distinct and followed by some of them again, only the distinct names are kept
pub distinct-first : (xs ys : List (List ℕ)) → AreDistinct xs → AllByRecursion (Among xs) ys → distinct_onto same_name [] (xs ++ ys) ≡ xs
distinct-first xs ys d all =
    distinct-append [] xs ys ∙ (ap (λ (seen : List (List ℕ)). distinct_onto same_name seen ys) (distinct-stays [] xs d) ∙ distinct-adds_none xs ys all)

pushed : (xs : List (List ℕ)) (y : List ℕ) → AreDistinct xs → list_any (λ x. same_name x y) xs ≡ false → AreDistinct (xs ++ y ∷ [])
pushed [] y d e = (tt, tt)
pushed (x ∷ xs) y d e = let two = or_parts (same_name x y) (list_any (λ x. same_name x y) xs) e in (behind xs d.0 two.0, pushed xs y d.1 two.1)
  where
    behind : (xs : List (List ℕ)) → Differs x xs → same_name x y ≡ false → Differs x (xs ++ y ∷ [])
    behind [] d e = (e, tt)
    behind (z ∷ xs) d e = (d.0, behind xs d.1 e)

-- if the names seen are distinct, the names that are kept are distinct
pub distinct-apart : (seen xs : List (List ℕ)) → AreDistinct seen → AreDistinct (distinct_onto same_name seen xs)
distinct-apart seen [] d = d
distinct-apart seen (x ∷ xs) d =
    distinct-apart (if list_any (λ y. same_name y x) seen then seen else seen ++ x ∷ []) xs
    (elim (list_any (λ y. same_name y x) seen) as (λ b. list_any (λ y. same_name y x) seen ≡ b → AreDistinct (if b then seen else seen ++ x ∷ [])) [
      | true ↦ λ e. d
      | false ↦ λ e. pushed seen x d e
    ] refl)

differs-at : (x name : List ℕ) (k : ℕ) (xs : List (List ℕ)) → Differs x xs → slice_get xs k ≡ Some name → same_name x name ≡ false
differs-at x name k [] d at = absurd (none-some name at)
differs-at x name zero (y ∷ xs) d at = ap (same_name x) (sym (same_Some y name at)) ∙ d.0
differs-at x name (suc k) (y ∷ xs) d at = differs-at x name k xs d.1 at

-- if names are distinct, a test that only the same name passes finds each of them at its place
pub found-at : (p : List ℕ → Bool) (name : List ℕ) (k : ℕ) (xs : List (List ℕ)) → p name ≡ true → ((x : List ℕ) → same_name x name ≡ false → p x ≡ false)
    → AreDistinct xs → slice_get xs k ≡ Some name → position p xs ≡ Some k
found-at p name k [] here others d at = absurd (none-some name at)
found-at p name zero (x ∷ xs) here others d at =
    position_cons p x xs ∙ cond-true (p x) _ _ (ap p (same_Some x name at) ∙ here)
found-at p name (suc k) (x ∷ xs) here others d at =
    position_cons p x xs ∙ (cond-false (p x) _ _ (others x (differs-at x name k xs d.0 at)) ∙ ap (option_map suc) (found-at p name k xs here others d.1 at))

pub at-among : (names : List (List ℕ)) (k : ℕ) (name : List ℕ) → slice_get names k ≡ Some name → Among names name
at-among [] k name at = absurd (none-some name at)
at-among (x ∷ names) zero name at =
    ap (λ b. b || list_any (λ y. same_name y name) names) (ap (λ k. same_name k name) (same_Some x name at) ∙ same_name-self name)
at-among (x ∷ names) (suc k) name at = or_right (same_name x name) (list_any (λ y. same_name y name) names) (at-among names k name at)

-- place k of a range of numbers has the name of number `from + k`
pub range-at : (from n k : ℕ) → k < n → slice_get (map decimal (range_with_len from n)) k ≡ Some (decimal (from + k))
range-at from zero k less = absurd (omega arith)
range-at from (suc n) zero less = let e : from ≡ from + 0 = omega arith in ap (λ (m : ℕ). Some (decimal m)) e
range-at from (suc n) (suc k) less = let e : from + 1 + k ≡ from + suc k = omega arith in range-at (from + 1) n k (omega arith) ∙ ap (λ (m : ℕ). Some (decimal m)) e
