-- Numbers are written over the beginning of a buffer, step by step.
use Rattle.std.proofs.Common.{◌≡◌, ℕ, zero, suc, ◌+◌, ◌<◌, ◌≤◌, List, [], ◌∷◌, ◌++◌, length, take, drop, map, refl, ap, subst, ◌∙◌, arith}
use Rattle.std.specs.Prelude.{min, slice_set}
use Rattle.std.proofs.lemmas.List.{take-append-drop, append-nil, take_all, drop_all, length-drop}
use borrow.Rule.Slice.PartMut.{put_mid}
use Rattle.curlew_calls.specs.Numbers.{written}

-- if a buffer is empty, it is empty after numbers are written to it
pub written_nowhere : (numbers : List ℕ) → written numbers [] ≡ []
written_nowhere [] = refl
written_nowhere (n ∷ numbers) = refl

-- writing numbers to a buffer stores as many of them as fit and leaves the rest of the buffer unchanged
pub written_count : (count : ℕ) (numbers room : List ℕ) → count ≡ min (length numbers) (length room) → take count numbers ++ drop count room ≡ written numbers room
written_count zero [] room e = refl
written_count zero (n ∷ numbers) [] e = refl
written_count zero (n ∷ numbers) (old ∷ room) e = absurd (omega arith)
written_count (suc count) [] room e = absurd (omega arith)
written_count (suc count) (n ∷ numbers) [] e = absurd (omega arith)
written_count (suc count) (n ∷ numbers) (old ∷ room) e = ap (λ rest. n ∷ rest) (written_count count numbers room (omega arith))

-- writing two lists one after the other is the same as writing their concatenation
pub written_behind : (numbers more room : List ℕ)
    → take (length numbers) (written numbers room) ++ written more (drop (length numbers) (written numbers room)) ≡ written (numbers ++ more) room
written_behind [] more room = refl
written_behind (n ∷ numbers) more [] = written_nowhere more
written_behind (n ∷ numbers) more (old ∷ room) = ap (λ rest. n ∷ rest) (written_behind numbers more room)

-- if an index is in the buffer, storing a number there and the others after it is the same as writing all of them there
put_suc : (p : ℕ) (room : List ℕ) (n : ℕ) (more : List ℕ) → p < length room
    → take (suc p) (slice_set room p n) ++ written more (drop (suc p) (slice_set room p n)) ≡ take p room ++ written (n ∷ more) (drop p room)
put_suc zero [] n more within = absurd (omega arith)
put_suc zero (old ∷ room) n more within = refl
put_suc (suc p) [] n more within = absurd (omega arith)
put_suc (suc p) (old ∷ room) n more within = ap (λ rest. old ∷ rest) (put_suc p room n more (omega arith))

pub put_next : (p : ℕ) (room : List ℕ) (n : ℕ) (more : List ℕ) → p < length room
    → take (p + 1) (slice_set room p n) ++ written more (drop (p + 1) (slice_set room p n)) ≡ take p room ++ written (n ∷ more) (drop p room)
put_next p room n more within =
    let next : suc p ≡ p + 1 = omega arith in
    subst (λ q. take q (slice_set room p n) ++ written more (drop q (slice_set room p n)) ≡ take p room ++ written (n ∷ more) (drop p room)) next (put_suc p room n more within)

-- if all numbers are written or the buffer is full, writing the remaining numbers does not change the buffer
pub put_done : (p : ℕ) (numbers room : List ℕ) → min (length numbers) (length room) ≤ p → take p room ++ written (drop p numbers) (drop p room) ≡ room
put_done zero [] room done = refl
put_done zero (n ∷ numbers) [] done = refl
put_done zero (n ∷ numbers) (old ∷ room) done = absurd (omega arith)
put_done (suc p) [] room done = take-append-drop (suc p) room
put_done (suc p) (n ∷ numbers) [] done = written_nowhere (drop p numbers)
put_done (suc p) (n ∷ numbers) (old ∷ room) done = ap (λ rest. old ∷ rest) (put_done p numbers room (omega arith))

pub put_done_mapped : {X : Type 0} (f : X → ℕ) (p : ℕ) (items : List X) (room : List ℕ) → min (length items) (length room) ≤ p → take p room ++ written (map f (drop p items)) (drop p room) ≡ room
put_done_mapped f zero [] room done = refl
put_done_mapped f zero (n ∷ items) [] done = refl
put_done_mapped f zero (n ∷ items) (old ∷ room) done = absurd (omega arith)
put_done_mapped f (suc p) [] room done = take-append-drop (suc p) room
put_done_mapped f (suc p) (n ∷ items) [] done = written_nowhere (map f (drop p items))
put_done_mapped f (suc p) (n ∷ items) (old ∷ room) done = ap (λ rest. old ∷ rest) (put_done_mapped f p items room (omega arith))

-- if an index is past the end of the buffer, writing numbers there does not change the buffer
pub put_past : (p : ℕ) (numbers room : List ℕ) → length room ≤ p → take p room ++ written numbers (drop p room) ≡ room
put_past zero numbers [] past = written_nowhere numbers
put_past zero numbers (old ∷ room) past = absurd (omega arith)
put_past (suc p) numbers [] past = written_nowhere numbers
put_past (suc p) numbers (old ∷ room) past = ap (λ rest. old ∷ rest) (put_past p numbers room (omega arith))

-- writing a list at an index and another list after it is the same as writing their concatenation at the index
pub put_at : (p q : ℕ) (room numbers more : List ℕ) → q ≡ p + length numbers
    → take q (take p room ++ written numbers (drop p room)) ++ written more (drop q (take p room ++ written numbers (drop p room)))
    ≡ take p room ++ written (numbers ++ more) (drop p room)
put_at zero q room numbers more e =
    let same : length numbers ≡ q = omega (arith, e) in
    subst (λ m. take m (written numbers room) ++ written more (drop m (written numbers room)) ≡ written (numbers ++ more) room) same (written_behind numbers more room)
put_at (suc p) zero room numbers more e = absurd (omega (arith, e))
put_at (suc p) (suc q) [] [] more e = refl
put_at (suc p) (suc q) [] (n ∷ numbers) more e = written_nowhere more
put_at (suc p) (suc q) (old ∷ room) numbers more e = ap (λ rest. old ∷ rest) (put_at p q room numbers more (omega (arith, e)))

-- if numbers are written to the rest of the buffer from an index on, the whole buffer is as if they were written there
pub put_part : (p k : ℕ) (room numbers more : List ℕ) → p + k ≡ length room → more ≡ written numbers (take k (drop p room)) → put_mid p k room more ≡ take p room ++ written numbers (drop p room)
put_part p k room numbers more whole is =
    let rest = drop p room in
    let few : length rest ≤ k = omega (arith, length-drop p room) in
    let full : more ≡ written numbers rest = is ∙ ap (written numbers) (take_all k rest few) in
    ap (λ all. take p room ++ (more ++ all)) (drop_all k rest few) ∙ ap (λ all. take p room ++ all) (append-nil more ∙ full)
