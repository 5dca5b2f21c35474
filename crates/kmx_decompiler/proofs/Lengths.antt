-- Counts by the lengths of stores, added one after the other.
use Rattle.std.proofs.Common.{◌≡◌, ℕ, ◌+◌, ◌≤◌, List, [], ◌∷◌, ◌++◌, length, drop, map, Some, refl, sym, ap, ◌∙◌, arith}
use Rattle.std.specs.Prelude.{sum, slice_get}
use Rattle.std.proofs.lemmas.List.{drop_more}
use Rattle.std.proofs.lemmas.List.Sums.{sum_by-cons}
use Rattle.std.proofs.lemmas.Option.{slice_get_within, get_or_from_slice_get}
use Rattle.kmx_decompiler.specs.declared.counts.WrittenCounts.{WrittenCounts}
use Rattle.kmx_decompiler.specs.Counting.{capped, none_counted, with_lengths}

abbrev next : WrittenCounts → ℕ → WrittenCounts
next counts n = record { stores = capped (counts.stores + 1); elements = capped (counts.elements + n) }

-- adding lengths and then others is adding the joined lengths
pub with_lengths_append : (counts : WrittenCounts) (first second : List ℕ) → with_lengths (with_lengths counts first) second ≡ with_lengths counts (first ++ second)
with_lengths_append counts [] second = refl
with_lengths_append counts (n ∷ ns) second = with_lengths_append (next counts n) ns second

-- adding the length of the value at an index, then the lengths after it, is adding all lengths from the index on
pub next_length : (counts more whole : WrittenCounts) (values : List (List ℕ)) (place : ℕ) (value : List ℕ) → Some value ≡ slice_get values place → more ≡ with_lengths counts (length value ∷ [])
    → with_lengths counts (map length (drop place values)) ≡ whole → with_lengths more (map length (drop (place + 1) values)) ≡ whole
next_length counts more whole values place value at is so_far =
    let here : slice_get values place ≡ Some value = sym at in
    let rest : List (List ℕ) = drop (place + 1) values in
    let all : drop place values ≡ value ∷ rest =
    drop_more values place value (slice_get_within values place value here) ∙ ap (λ (v : List ℕ). v ∷ rest) (get_or_from_slice_get values place value value here) in
    ap (λ (c : WrittenCounts). with_lengths c (map length rest)) is
    ∙ (sym (ap (λ (vs : List (List ℕ)). with_lengths counts (map length vs)) all) ∙ so_far)

within : (n : ℕ) → n ≤ 0xFFFF_FFFF → capped n ≡ n
within n few = omega (arith, few)

stores_from : (counts : WrittenCounts) (ns : List ℕ) → counts.stores + length ns ≤ 0xFFFF_FFFF → (with_lengths counts ns).stores ≡ counts.stores + length ns
stores_from counts [] few = omega arith
stores_from counts (n ∷ ns) few =
    let one = within (counts.stores + 1) (omega (arith, few)) in
    let rest = stores_from (next counts n) ns (omega (arith, few, one)) in
    omega (arith, rest, one)

elements_from : (counts : WrittenCounts) (ns : List ℕ) → counts.elements + sum ns ≤ 0xFFFF_FFFF → (with_lengths counts ns).elements ≡ counts.elements + sum ns
elements_from counts [] few = omega arith
elements_from counts (n ∷ ns) few =
    let all : sum (n ∷ ns) ≡ n + sum ns = sum_by-cons (λ m. m) n ns in
    let more = within (counts.elements + n) (omega (arith, few, all)) in
    let rest = elements_from (next counts n) ns (omega (arith, few, all, more)) in
    omega (arith, rest, all, more)

-- if the counts start at zero and fit in 32 bits, they are the number of lengths and the sum of the lengths
pub stores_are : (ns : List ℕ) → length ns ≤ 0xFFFF_FFFF → (with_lengths none_counted ns).stores ≡ length ns
stores_are ns few = let all = stores_from none_counted ns (omega (arith, few)) in omega (arith, all)

pub elements_are : (ns : List ℕ) → sum ns ≤ 0xFFFF_FFFF → (with_lengths none_counted ns).elements ≡ sum ns
elements_are ns few = let all = elements_from none_counted ns (omega (arith, few)) in omega (arith, all)
