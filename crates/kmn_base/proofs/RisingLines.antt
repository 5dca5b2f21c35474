-- The sorted list of distinct numbers: it rises, and it contains each number of the list.
use Rattle.std.proofs.Common.{◌≡◌, ℕ, zero, suc, ◌+◌, ◌<◌, ◌||◌, ◌⊎◌, inl, inr, List, [], ◌∷◌, length, Contains, refl, sym, subst, arith, Ordering, Less, Equal, Greater}
use Rattle.std.specs.Prelude.{nat_eq, slice_index, slice_index_or}
use Rattle.std.specs.List.{fold, list_any}
use Rattle.std.specs.List.Sorted.{IsStrictlyIncreasing}
use Rattle.std.specs.Ordering.{nat_cmp, match_ordering}
use Rattle.std.specs.BTreeMap.{is_at}
use Rattle.std.specs.BTreeSet.{insert_key}
use Rattle.std.proofs.lemmas.Bool.Decides.{nat_tests}
use Rattle.std.proofs.lemmas.Cmp.{ranked}
use Rattle.std.proofs.lemmas.List.Elements.{Contains-append_right}
use Rattle.kmn_base.specs.Rising.{AllAbove, Rises, is_among, rising}

-- a number compares equal only to itself
at_is : (n m : ℕ) → is_at (nat_cmp n) m ≡ nat_eq n m
at_is n m = grind (arith, nat_tests)

pub among_is : (n : ℕ) (ns : List ℕ) → list_any (is_at (nat_cmp n)) ns ≡ is_among n ns
among_is n [] = refl
among_is n (m ∷ ns) = λ i. at_is n m i || among_is n ns i

-- ---- they rise

AllAbove-lower : (low high : ℕ) → low < high → (ns : List ℕ) → AllAbove high ns → AllAbove low ns
AllAbove-lower low high less [] above = tt
AllAbove-lower low high less (n ∷ ns) (here, rest) = (omega (arith, less, here), AllAbove-lower low high less ns rest)

AllAbove-insert : (low n : ℕ) → low < n → (ns : List ℕ) → AllAbove low ns → AllAbove low (insert_key nat_cmp ns n)
AllAbove-insert low n less [] above = (less, tt)
AllAbove-insert low n less (m ∷ ns) (here, rest) = by (nat_cmp n m) (AllAbove-insert low n less ns rest)
  where
    by : (o : Ordering) → AllAbove low (insert_key nat_cmp ns n) → AllAbove low (match_ordering o (n ∷ m ∷ ns) (m ∷ ns) (m ∷ insert_key nat_cmp ns n))
    by Less later = (less, (here, rest))
    by Equal later = (here, rest)
    by Greater later = (here, later)

Rises-insert : (n : ℕ) (ns : List ℕ) → Rises ns → Rises (insert_key nat_cmp ns n)
Rises-insert n [] rises = (tt, tt)
Rises-insert n (m ∷ ns) (above, rises) = by (nat_cmp n m) refl (Rises-insert n ns rises)
  where
    by : (o : Ordering) → nat_cmp n m ≡ o → Rises (insert_key nat_cmp ns n) → Rises (match_ordering o (n ∷ m ∷ ns) (m ∷ ns) (m ∷ insert_key nat_cmp ns n))
    by Less is later = let less : n < m = ranked n m Less (sym is) in ((less, AllAbove-lower n m less ns above), (above, rises))
    by Equal is later = (above, rises)
    by Greater is later = (AllAbove-insert m n (ranked n m Greater (sym is)) ns above, later)

Rises-fold : (kept ns : List ℕ) → Rises kept → Rises (fold (insert_key nat_cmp) kept ns)
Rises-fold kept [] rises = rises
Rises-fold kept (n ∷ ns) rises = Rises-fold (insert_key nat_cmp kept n) ns (Rises-insert n kept rises)

Rises-increase : (ns : List ℕ) → Rises ns → IsStrictlyIncreasing ns
Rises-increase [] rises k less = absurd (omega (arith, less))
Rises-increase (n ∷ []) rises k less = absurd (omega (arith, less))
Rises-increase (n ∷ m ∷ ns) rises zero less = rises.0.0
Rises-increase (n ∷ m ∷ ns) rises (suc k) less =
    let next : suc (k + 1) ≡ suc k + 1 = omega arith in
    subst (λ (j : ℕ). slice_index (n ∷ m ∷ ns) (suc k) < slice_index (n ∷ m ∷ ns) j) next (Rises-increase (m ∷ ns) rises.1 k (omega (arith, less)))

pub rising_increases : (ns : List ℕ) → IsStrictlyIncreasing (rising ns)
rising_increases ns = Rises-increase (rising ns) (Rises-fold [] ns (tt))

-- ---- each is among them

abbrev IsIn : ℕ → List ℕ → Type 0
IsIn n [] = ⊥
IsIn n (m ∷ ns) = (n ≡ m) ⊎ IsIn n ns

in_at : (n : ℕ) (ns : List ℕ) (k : ℕ) → k < length ns → slice_index_or ns k n ≡ n → IsIn n ns
in_at n [] k less is = absurd (omega (arith, less))
in_at n (m ∷ ns) zero less is = inl (sym is)
in_at n (m ∷ ns) (suc k) less is = inr (in_at n ns k (omega (arith, less)) is)

in_is_contained : (n : ℕ) (ns : List ℕ) → IsIn n ns → Contains ns n
in_is_contained n [] i = absurd i
in_is_contained n (m ∷ ns) (inl is) = (zero, omega arith, sym is)
in_is_contained n (m ∷ ns) (inr i) = Contains-append_right (m ∷ []) ns n (in_is_contained n ns i)

inserted_is_in : (n : ℕ) (ns : List ℕ) → IsIn n (insert_key nat_cmp ns n)
inserted_is_in n [] = inl refl
inserted_is_in n (m ∷ ns) = by (nat_cmp n m) refl (inserted_is_in n ns)
  where
    by : (o : Ordering) → nat_cmp n m ≡ o → IsIn n (insert_key nat_cmp ns n) → IsIn n (match_ordering o (n ∷ m ∷ ns) (m ∷ ns) (m ∷ insert_key nat_cmp ns n))
    by Less is later = inl refl
    by Equal is later = inl (ranked n m Equal (sym is))
    by Greater is later = inr later

stays_in : (k n : ℕ) (ns : List ℕ) → IsIn k ns → IsIn k (insert_key nat_cmp ns n)
stays_in k n [] i = absurd i
stays_in k n (m ∷ ns) i = by (nat_cmp n m) (stays_in k n ns) i
  where
    by : (o : Ordering) → (IsIn k ns → IsIn k (insert_key nat_cmp ns n)) → (k ≡ m) ⊎ IsIn k ns → IsIn k (match_ordering o (n ∷ m ∷ ns) (m ∷ ns) (m ∷ insert_key nat_cmp ns n))
    by Less later j = inr j
    by Equal later j = j
    by Greater later (inl is) = inl is
    by Greater later (inr j) = inr (later j)

stays_in_all : (k : ℕ) (kept ns : List ℕ) → IsIn k kept → IsIn k (fold (insert_key nat_cmp) kept ns)
stays_in_all k kept [] i = i
stays_in_all k kept (n ∷ ns) i = stays_in_all k (insert_key nat_cmp kept n) ns (stays_in k n kept i)

in_fold : (k : ℕ) (kept ns : List ℕ) → IsIn k ns → IsIn k (fold (insert_key nat_cmp) kept ns)
in_fold k kept [] i = absurd i
in_fold k kept (n ∷ ns) (inl is) = stays_in_all k (insert_key nat_cmp kept n) ns (subst (λ (m : ℕ). IsIn m (insert_key nat_cmp kept n)) (sym is) (inserted_is_in n kept))
in_fold k kept (n ∷ ns) (inr i) = in_fold k (insert_key nat_cmp kept n) ns i

pub rising_has : (n : ℕ) (ns : List ℕ) → Contains ns n → Contains (rising ns) n
rising_has n ns has = in_is_contained n (rising ns) (in_fold n [] ns (in_at n ns has.0 has.1 has.2))
