-- A stable sort by line puts causes in the order of lines.
use Rattle.std.proofs.Common.{◌≡◌, ℕ, suc, ◌<◌, ◌≤◌, Bool, true, false, cond, List, [], ◌∷◌, length, drop, get_or, refl, sym, ap, ◌∙◌, arith}
use Rattle.std.specs.Prelude.{nat_eq, nat_lt, not, ◌&&◌, filter, if◌then◌else◌}
use Rattle.std.specs.List.Sorted.{IsNonDecreasingBy, IsStableByKey, ties}
use Rattle.std.specs.Ordering.{is_lt, nat_cmp}
use Rattle.std.specs.declared.cmp.Ordering.TheVariants.{Less, Equal, Greater}
use Rattle.std.proofs.lemmas.Bool.Decides.{nat_tests}
use Rattle.kmn_base.specs.declared.codes.Code.TheVariants.{C02}
use Rattle.source_names.specs.declared.causes.Cause.TheVariants as because
use Rattle.source_names.specs.declared.causes.NameFault.{NameFault}
use Rattle.source_names.specs.Telling.{inserted, in_lines}

-- whether a cause is at a line
abbrev at : ℕ → NameFault → Bool
at line found = nat_eq found.line line

-- causes that are not before a line, and causes in the order of lines
abbrev AllFrom : ℕ → List NameFault → Type 0
AllFrom low [] = Unit {0}
AllFrom low (found ∷ faults) = (low ≤ found.line) × AllFrom low faults

abbrev Climbs : List NameFault → Type 0
Climbs [] = Unit {0}
Climbs (found ∷ faults) = AllFrom found.line faults × Climbs faults

from_lower : (low high : ℕ) (faults : List NameFault) → low ≤ high → AllFrom high faults → AllFrom low faults
from_lower low high [] less from = tt
from_lower low high (found ∷ faults) less (here, rest) = (omega (arith, less, here), from_lower low high faults less rest)

less_is : (a b : ℕ) → nat_lt a b ≡ true → a ≤ b
less_is a b h = grind (arith, nat_tests)

not_less_is : (a b : ℕ) → nat_lt a b ≡ false → b ≤ a
not_less_is a b h = grind (arith, nat_tests)

-- an inserted cause keeps the order
inserted_from : (low : ℕ) (found : NameFault) (faults : List NameFault) → low ≤ found.line → AllFrom low faults → AllFrom low (inserted found faults)
inserted_from low found [] here from = (here, tt)
inserted_from low found (next ∷ faults) here (first, rest) = by (nat_lt next.line found.line) (inserted_from low found faults here rest)
  where
    by : (t : Bool) → AllFrom low (inserted found faults) → AllFrom low (if t then next ∷ inserted found faults else found ∷ next ∷ faults)
    by true again = (first, again)
    by false again = (here, (first, rest))

inserted_climbs : (found : NameFault) (faults : List NameFault) → Climbs faults → Climbs (inserted found faults)
inserted_climbs found [] climbs = (tt, tt)
inserted_climbs found (next ∷ faults) (from, climbs) = by (nat_lt next.line found.line) refl (inserted_climbs found faults climbs)
  where
    by : (t : Bool) → nat_lt next.line found.line ≡ t → Climbs (inserted found faults) → Climbs (if t then next ∷ inserted found faults else found ∷ next ∷ faults)
    by true less again = (inserted_from next.line found faults (less_is next.line found.line less) from, again)
    by false less again =
        let lower = not_less_is next.line found.line less in
        ((lower, from_lower found.line next.line faults lower from), (from, climbs))

in_lines_climb : (faults : List NameFault) → Climbs (in_lines faults)
in_lines_climb [] = tt
in_lines_climb (found ∷ faults) = inserted_climbs found (in_lines faults) (in_lines_climb faults)

-- the causes at each line stay in their order
swapped : {X : Type 0} (a b : Bool) (x y : X) (rest : List X) → (a ≡ true → b ≡ true → ⊥)
    → cond a (x ∷ cond b (y ∷ rest) rest) (cond b (y ∷ rest) rest) ≡ cond b (y ∷ cond a (x ∷ rest) rest) (cond a (x ∷ rest) rest)
swapped true true x y rest not_both = absurd (not_both refl refl)
swapped true false x y rest not_both = refl
swapped false b x y rest not_both = refl

not_both_at : (line low high : ℕ) → nat_lt low high ≡ true → nat_eq low line ≡ true → nat_eq high line ≡ true → ⊥
not_both_at line low high less here there = grind (arith, nat_tests)

inserted_at : (line : ℕ) (found : NameFault) (faults : List NameFault) → filter (at line) (inserted found faults) ≡ filter (at line) (found ∷ faults)
inserted_at line found [] = refl
inserted_at line found (next ∷ faults) = by (nat_lt next.line found.line) refl (inserted_at line found faults)
  where
    by : (t : Bool) → nat_lt next.line found.line ≡ t → filter (at line) (inserted found faults) ≡ filter (at line) (found ∷ faults)
        → filter (at line) (if t then next ∷ inserted found faults else found ∷ next ∷ faults) ≡ filter (at line) (found ∷ next ∷ faults)
    by true less again =
        ap (λ rest. cond (at line next) (next ∷ rest) rest) again
        ∙ swapped (at line next) (at line found) next found (filter (at line) faults) (not_both_at line next.line found.line less)
    by false less again = refl

in_lines_at : (line : ℕ) (faults : List NameFault) → filter (at line) (in_lines faults) ≡ filter (at line) faults
in_lines_at line [] = refl
in_lines_at line (found ∷ faults) =
    inserted_at line found (in_lines faults) ∙ ap (λ rest. cond (at line found) (found ∷ rest) rest) (in_lines_at line faults)

-- causes in the order of lines are the same if those at each line are the same
same_line : (line : ℕ) → nat_eq line line ≡ true
same_line line = grind (arith, nat_tests)

some_kept : (found : NameFault) (rest : List NameFault) → cond (at found.line found) (found ∷ rest) rest ≡ [] → ⊥
some_kept found rest none =
    let kept : found ∷ rest ≡ [] = ap (λ t. cond t (found ∷ rest) rest) (sym (same_line found.line)) ∙ none in
    absurd (cc)

at_is : (n m : ℕ) → nat_eq m n ≡ true → m ≡ n
at_is n m h = grind (arith, nat_tests)

not_above : (low here line : ℕ) → here ≡ line → low ≤ here → low ≤ line
not_above low here line is from = omega (arith, is, from)

from_kept : (low line : ℕ) (faults : List NameFault) → AllFrom low faults → (filter (at line) faults ≡ [] → ⊥) → low ≤ line
from_kept low line [] from some = absurd (some refl)
from_kept low line (found ∷ faults) (here, rest) some = by (at line found) refl some (from_kept low line faults rest)
  where
    by : (t : Bool) → at line found ≡ t → (cond t (found ∷ filter (at line) faults) (filter (at line) faults) ≡ [] → ⊥)
        → ((filter (at line) faults ≡ [] → ⊥) → low ≤ line) → low ≤ line
    by true is kept again = not_above low found.line line (at_is line found.line is) here
    by false is kept again = again kept

tails : {X : Type 0} (t : Bool) (x y : X) (xs ys : List X) → cond t (x ∷ xs) xs ≡ cond t (y ∷ ys) ys → xs ≡ ys
tails true x y xs ys same = ap (drop 1) same
tails false x y xs ys same = same

abbrev first_or : NameFault → List NameFault → NameFault
first_or other [] = other
first_or other (found ∷ faults) = found

same_if_climbing : (xs ys : List NameFault) → Climbs xs → Climbs ys → ((line : ℕ) → filter (at line) xs ≡ filter (at line) ys) → xs ≡ ys
same_if_climbing [] [] none also same = refl
same_if_climbing [] (y ∷ ys) none climbs same = absurd (some_kept y (filter (at y.line) ys) (sym (same y.line)))
same_if_climbing (x ∷ xs) [] climbs none same = absurd (some_kept x (filter (at x.line) xs) (same x.line))
same_if_climbing (x ∷ xs) (y ∷ ys) (from_x, climbs_x) (from_y, climbs_y) same =
    λ j. heads j ∷ same_if_climbing xs ys climbs_x climbs_y rests j
  where
    x_first : x.line ≤ y.line
    x_first = from_kept x.line y.line (x ∷ xs) (omega (arith), from_x) (λ none. some_kept y (filter (at y.line) ys) (sym (same y.line) ∙ none))

    y_first : y.line ≤ x.line
    y_first = from_kept y.line x.line (y ∷ ys) (omega (arith), from_y) (λ none. some_kept x (filter (at x.line) xs) (same x.line ∙ none))

    lines : y.line ≡ x.line
    lines = omega (arith, x_first, y_first)

    kept : x ∷ filter (at x.line) xs ≡ y ∷ filter (at x.line) ys
    kept =
        ap (λ t. cond t (x ∷ filter (at x.line) xs) (filter (at x.line) xs)) (sym (same_line x.line))
        ∙ same x.line
        ∙ ap (λ t. cond t (y ∷ filter (at x.line) ys) (filter (at x.line) ys)) (ap (λ n. nat_eq n x.line) lines ∙ same_line x.line)

    heads : x ≡ y
    heads = ap (first_or x) kept

    rests : (line : ℕ) → filter (at line) xs ≡ filter (at line) ys
    rests line = tails (at line x) x y (filter (at line) xs) (filter (at line) ys)
        (same line ∙ ap (λ t. cond t (y ∷ filter (at line) ys) (filter (at line) ys)) (ap (λ (found : NameFault). at line found) (sym heads)))

-- a sorted list is in the order of lines
all_from : (low : ℕ) (faults : List NameFault) → ((k : ℕ) (d : NameFault) → k < length faults → low ≤ (get_or faults k d).line) → AllFrom low faults
all_from low [] from = tt
all_from low (found ∷ faults) from = (from 0 found (omega arith), all_from low faults (λ k d h. from (suc k) d (omega (arith, h))))

climbs_if_sorted : (faults : List NameFault) → IsNonDecreasingBy (λ (found : NameFault). found.line) faults → Climbs faults
climbs_if_sorted [] sorted = tt
climbs_if_sorted (found ∷ faults) sorted = (
  all_from found.line faults (λ k d h. sorted 0 (suc k) d (omega arith) (omega (arith, h))),
  climbs_if_sorted faults (λ i j d less h. sorted (suc i) (suc j) d (omega (arith, less)) (omega (arith, h))),
)

stable_is_in_lines : (faults sorted : List NameFault) → IsNonDecreasingBy (λ (found : NameFault). found.line) sorted
    → ((line : ℕ) → filter (at line) sorted ≡ filter (at line) faults) → sorted ≡ in_lines faults
stable_is_in_lines faults sorted rises stable =
    same_if_climbing sorted (in_lines faults) (climbs_if_sorted sorted rises) (in_lines_climb faults) (λ line. stable line ∙ sym (in_lines_at line faults))

neither_less : (m n : ℕ) → (not (nat_lt m n) && not (nat_lt n m)) ≡ nat_eq n m
neither_less m n = grind (arith, nat_tests)

compared : (less same : Bool) → is_lt (cond less Less (cond same Equal Greater)) ≡ less
compared true same = refl
compared false true = refl
compared false false = refl

less_compared : (m n : ℕ) → is_lt (nat_cmp m n) ≡ nat_lt m n
less_compared m n = compared (nat_lt m n) (nat_eq m n)

tie_at : (other found : NameFault) → ties (λ (a b : NameFault). is_lt (nat_cmp a.line b.line)) other found ≡ at other.line found
tie_at other found =
    (λ j. not (less_compared other.line found.line j) && not (less_compared found.line other.line j)) ∙ neither_less other.line found.line

-- a sort by line that keeps the order of ties puts causes in the order of lines
pub sorted_is_in_lines : (faults items sorted : List NameFault) → items ≡ faults → IsNonDecreasingBy (λ (found : NameFault). found.line) sorted
    → IsStableByKey (λ (found : NameFault). found.line) nat_cmp items sorted → sorted ≡ in_lines faults
sorted_is_in_lines faults items sorted same rises stable =
    stable_is_in_lines faults sorted rises
    (λ line.
    let one : NameFault = record { line = line; cause = because.Broken C02 } in
    ap (λ test. filter test sorted) (λ j found. sym (tie_at one found) j)
    ∙ stable one
    ∙ ap (λ test. filter test items) (λ j found. tie_at one found j)
    ∙ ap (filter (at line)) same)
