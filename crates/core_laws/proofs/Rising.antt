-- A list of numbers and the sorted list of its distinct numbers have the same numbers.
use Rattle.std.specs.Prelude.{◌≡◌, ℕ, ◌||◌, Bool, true, false, nat_eq, List, [], ◌∷◌, ◌++◌}
use Rattle.std.specs.List.{fold}
use Rattle.std.specs.Ordering.{nat_cmp, match_ordering}
use Rattle.std.specs.BTreeSet.{insert_key}
use Rattle.std.proofs.Common.{refl, sym, ap, ◌∙◌, arith, Ordering, Less, Equal, Greater}
use Rattle.std.proofs.Math.Path.{subst}
use Rattle.std.proofs.lemmas.Bool.Decides.{nat_tests}
use Rattle.std.proofs.lemmas.Cmp.{ranked}
use Rattle.kmn_base.specs.Rising.{is_among, rising}

pub false_true : false ≡ true → ⊥
false_true e = grind arith

pub equal_numbers : (n m : ℕ) → nat_eq n m ≡ true → n ≡ m
equal_numbers n m e = grind (arith, nat_tests)

pub same_number : (n : ℕ) → nat_eq n n ≡ true
same_number n = grind (arith, nat_tests)

inserted : (n : ℕ) (ns : List ℕ) → is_among n (insert_key nat_cmp ns n) ≡ true
inserted n [] = λ i. same_number n i || false
inserted n (m ∷ ns) = by (nat_cmp n m) refl (inserted n ns)
  where
    by : (o : Ordering) → nat_cmp n m ≡ o → is_among n (insert_key nat_cmp ns n) ≡ true → is_among n (match_ordering o (n ∷ m ∷ ns) (m ∷ ns) (m ∷ insert_key nat_cmp ns n)) ≡ true
    by Less is later = λ i. same_number n i || is_among n (m ∷ ns)
    by Equal is later = ap (λ (k : ℕ). nat_eq n k || is_among n ns) (sym (ranked n m Equal (sym is))) ∙ (λ i. same_number n i || is_among n ns)
    by Greater is later = by_test (nat_eq n m) later
      where
        by_test : (b : Bool) → is_among n (insert_key nat_cmp ns n) ≡ true → (b || is_among n (insert_key nat_cmp ns n)) ≡ true
        by_test true later = refl
        by_test false later = later

stays : (k n : ℕ) (ns : List ℕ) → is_among k ns ≡ true → is_among k (insert_key nat_cmp ns n) ≡ true
stays k n [] among = absurd (false_true among)
stays k n (m ∷ ns) among = by (nat_cmp n m) (stays k n ns)
  where
    either : (b rest more : Bool) → (b || rest) ≡ true → (rest ≡ true → more ≡ true) → (b || more) ≡ true
    either true rest more among later = refl
    either false rest more among later = later among

    behind : (b : Bool) → (b || is_among k (m ∷ ns)) ≡ true
    behind true = refl
    behind false = among

    by : (o : Ordering) → (is_among k ns ≡ true → is_among k (insert_key nat_cmp ns n) ≡ true) → is_among k (match_ordering o (n ∷ m ∷ ns) (m ∷ ns) (m ∷ insert_key nat_cmp ns n)) ≡ true
    by Less later = behind (nat_eq k n)
    by Equal later = among
    by Greater later = either (nat_eq k m) (is_among k ns) (is_among k (insert_key nat_cmp ns n)) among later

pub stays_in_fold : (k : ℕ) (kept ns : List ℕ) → is_among k kept ≡ true → is_among k (fold (insert_key nat_cmp) kept ns) ≡ true
stays_in_fold k kept [] among = among
stays_in_fold k kept (n ∷ ns) among = stays_in_fold k (insert_key nat_cmp kept n) ns (stays k n kept among)

pub in_fold : (k : ℕ) (kept ns : List ℕ) → is_among k ns ≡ true → is_among k (fold (insert_key nat_cmp) kept ns) ≡ true
in_fold k kept [] among = absurd (false_true among)
in_fold k kept (n ∷ ns) among = by_test (nat_eq k n) refl among (in_fold k (insert_key nat_cmp kept n) ns)
  where
    by_test : (b : Bool) → nat_eq k n ≡ b → (b || is_among k ns) ≡ true → (is_among k ns ≡ true → is_among k (fold (insert_key nat_cmp) (insert_key nat_cmp kept n) ns) ≡ true)
        → is_among k (fold (insert_key nat_cmp) (insert_key nat_cmp kept n) ns) ≡ true
    by_test true is among rest = stays_in_fold k (insert_key nat_cmp kept n) ns (subst (λ (m : ℕ). is_among k (insert_key nat_cmp kept m) ≡ true) (equal_numbers k n is) (inserted k kept))
    by_test false is among rest = rest among

pub in_rising : (k : ℕ) (ns : List ℕ) → is_among k ns ≡ true → is_among k (rising ns) ≡ true
in_rising k ns among = in_fold k [] ns among

-- a number that is not in the sorted list is not in the list
pub not_in_rising : (k : ℕ) (ns : List ℕ) → is_among k (rising ns) ≡ false → is_among k ns ≡ false
not_in_rising k ns none = by_test (is_among k ns) refl
  where
    by_test : (b : Bool) → is_among k ns ≡ b → b ≡ false
    by_test true is = absurd (false_true (sym none ∙ in_rising k ns is))
    by_test false is = refl

-- if the sorted list is empty, so is the list
pub none_rising : (ns : List ℕ) → rising ns ≡ [] → ns ≡ []
none_rising [] none = refl
none_rising (n ∷ ns) none = absurd (false_true (ap (is_among n) (sym none) ∙ in_rising n (n ∷ ns) (λ i. same_number n i || is_among n ns)))

-- ---- lists of lists

pub among_both : (k : ℕ) (ns ms : List ℕ) → is_among k (ns ++ ms) ≡ (is_among k ns || is_among k ms)
among_both k [] ms = refl
among_both k (n ∷ ns) ms = by_test (nat_eq k n) (among_both k ns ms)
  where
    by_test : (b : Bool) → is_among k (ns ++ ms) ≡ (is_among k ns || is_among k ms) → (b || is_among k (ns ++ ms)) ≡ ((b || is_among k ns) || is_among k ms)
    by_test true rest = refl
    by_test false rest = rest

pub among_left : (k : ℕ) (ns ms : List ℕ) → is_among k ns ≡ true → is_among k (ns ++ ms) ≡ true
among_left k ns ms among = among_both k ns ms ∙ (λ i. among i || is_among k ms)

pub among_right : (k : ℕ) (ns ms : List ℕ) → is_among k ms ≡ true → is_among k (ns ++ ms) ≡ true
among_right k ns ms among = among_both k ns ms ∙ by_test (is_among k ns) (is_among k ms) among
  where
    by_test : (a b : Bool) → b ≡ true → (a || b) ≡ true
    by_test true b told = refl
    by_test false b told = told
