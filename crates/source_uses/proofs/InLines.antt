-- A stable sort by line puts a list in the order of lines.
use Rattle.std.proofs.Common.{◌≡◌, ℕ, suc, ◌<◌, ◌≤◌, Bool, true, false, cond, List, [], ◌∷◌, length, drop, get_or, refl, sym, ap, ◌∙◌, arith}
use Rattle.std.specs.Prelude.{nat_eq, nat_lt, not, ◌&&◌, filter, if◌then◌else◌}
use Rattle.std.specs.List.Sorted.{IsNonDecreasingBy, IsStableByKey, ties}
use Rattle.std.specs.Ordering.{is_lt, nat_cmp}
use Rattle.std.specs.declared.cmp.Ordering.TheVariants.{Less, Equal, Greater}
use Rattle.std.proofs.lemmas.Bool.Decides.{nat_tests}
use Rattle.source_uses.specs.Lines.{inserted, in_lines}

-- whether a member is at a line
abbrev at : {X : Type 0} → (X → ℕ) → ℕ → X → Bool
at key line found = nat_eq (key found) line

-- members that are not before a line, and members in the order of lines
abbrev AllFrom : {X : Type 0} → (X → ℕ) → ℕ → List X → Type 0
AllFrom key low [] = Unit {0}
AllFrom key low (found ∷ others) = (low ≤ key found) × AllFrom key low others

abbrev Climbs : {X : Type 0} → (X → ℕ) → List X → Type 0
Climbs key [] = Unit {0}
Climbs key (found ∷ others) = AllFrom key (key found) others × Climbs key others

from_lower : {X : Type 0} (key : X → ℕ) (low high : ℕ) (others : List X) → low ≤ high → AllFrom key high others → AllFrom key low others
from_lower key low high [] less from = tt
from_lower key low high (found ∷ others) less (here, rest) = (omega (arith, less, here), from_lower key low high others less rest)

less_is : (a b : ℕ) → nat_lt a b ≡ true → a ≤ b
less_is a b h = grind (arith, nat_tests)

not_less_is : (a b : ℕ) → nat_lt a b ≡ false → b ≤ a
not_less_is a b h = grind (arith, nat_tests)

-- an inserted member keeps the order
inserted_from : {X : Type 0} (key : X → ℕ) (low : ℕ) (found : X) (others : List X) → low ≤ key found → AllFrom key low others → AllFrom key low (inserted key found others)
inserted_from key low found [] here from = (here, tt)
inserted_from key low found (next ∷ others) here (first, rest) = by (nat_lt (key next) (key found)) (inserted_from key low found others here rest)
  where
    by : (t : Bool) → AllFrom key low (inserted key found others) → AllFrom key low (if t then next ∷ inserted key found others else found ∷ next ∷ others)
    by true again = (first, again)
    by false again = (here, (first, rest))

inserted_climbs : {X : Type 0} (key : X → ℕ) (found : X) (others : List X) → Climbs key others → Climbs key (inserted key found others)
inserted_climbs key found [] climbs = (tt, tt)
inserted_climbs key found (next ∷ others) (from, climbs) = by (nat_lt (key next) (key found)) refl (inserted_climbs key found others climbs)
  where
    by : (t : Bool) → nat_lt (key next) (key found) ≡ t → Climbs key (inserted key found others) → Climbs key (if t then next ∷ inserted key found others else found ∷ next ∷ others)
    by true less again = (inserted_from key (key next) found others (less_is (key next) (key found) less) from, again)
    by false less again =
        let lower = not_less_is (key next) (key found) less in
        ((lower, from_lower key (key found) (key next) others lower from), (from, climbs))

in_lines_climb : {X : Type 0} (key : X → ℕ) (others : List X) → Climbs key (in_lines key others)
in_lines_climb key [] = tt
in_lines_climb key (found ∷ others) = inserted_climbs key found (in_lines key others) (in_lines_climb key others)

-- the members at each line stay in their order
swapped : {X : Type 0} (a b : Bool) (x y : X) (rest : List X) → (a ≡ true → b ≡ true → ⊥)
    → cond a (x ∷ cond b (y ∷ rest) rest) (cond b (y ∷ rest) rest) ≡ cond b (y ∷ cond a (x ∷ rest) rest) (cond a (x ∷ rest) rest)
swapped true true x y rest not_both = absurd (not_both refl refl)
swapped true false x y rest not_both = refl
swapped false b x y rest not_both = refl

not_both_at : (line low high : ℕ) → nat_lt low high ≡ true → nat_eq low line ≡ true → nat_eq high line ≡ true → ⊥
not_both_at line low high less here there = grind (arith, nat_tests)

inserted_at : {X : Type 0} (key : X → ℕ) (line : ℕ) (found : X) (others : List X) → filter (at key line) (inserted key found others) ≡ filter (at key line) (found ∷ others)
inserted_at key line found [] = refl
inserted_at key line found (next ∷ others) = by (nat_lt (key next) (key found)) refl (inserted_at key line found others)
  where
    by : (t : Bool) → nat_lt (key next) (key found) ≡ t → filter (at key line) (inserted key found others) ≡ filter (at key line) (found ∷ others)
        → filter (at key line) (if t then next ∷ inserted key found others else found ∷ next ∷ others) ≡ filter (at key line) (found ∷ next ∷ others)
    by true less again =
        ap (λ rest. cond (at key line next) (next ∷ rest) rest) again
        ∙ swapped (at key line next) (at key line found) next found (filter (at key line) others) (not_both_at line (key next) (key found) less)
    by false less again = refl

in_lines_at : {X : Type 0} (key : X → ℕ) (line : ℕ) (others : List X) → filter (at key line) (in_lines key others) ≡ filter (at key line) others
in_lines_at key line [] = refl
in_lines_at key line (found ∷ others) =
    inserted_at key line found (in_lines key others) ∙ ap (λ rest. cond (at key line found) (found ∷ rest) rest) (in_lines_at key line others)

-- lists in the order of lines are the same if their members at each line are the same
same_line : (line : ℕ) → nat_eq line line ≡ true
same_line line = grind (arith, nat_tests)

some_kept : {X : Type 0} (key : X → ℕ) (found : X) (rest : List X) → cond (at key (key found) found) (found ∷ rest) rest ≡ [] → ⊥
some_kept key found rest none =
    let kept : found ∷ rest ≡ [] = ap (λ t. cond t (found ∷ rest) rest) (sym (same_line (key found))) ∙ none in
    absurd (cc)

at_is : (n m : ℕ) → nat_eq m n ≡ true → m ≡ n
at_is n m h = grind (arith, nat_tests)

not_above : (low here line : ℕ) → here ≡ line → low ≤ here → low ≤ line
not_above low here line is from = omega (arith, is, from)

from_kept : {X : Type 0} (key : X → ℕ) (low line : ℕ) (others : List X) → AllFrom key low others → (filter (at key line) others ≡ [] → ⊥) → low ≤ line
from_kept key low line [] from some = absurd (some refl)
from_kept key low line (found ∷ others) (here, rest) some = by (at key line found) refl some (from_kept key low line others rest)
  where
    by : (t : Bool) → at key line found ≡ t → (cond t (found ∷ filter (at key line) others) (filter (at key line) others) ≡ [] → ⊥)
        → ((filter (at key line) others ≡ [] → ⊥) → low ≤ line) → low ≤ line
    by true is kept again = not_above low (key found) line (at_is line (key found) is) here
    by false is kept again = again kept

tails : {X : Type 0} (t : Bool) (x y : X) (xs ys : List X) → cond t (x ∷ xs) xs ≡ cond t (y ∷ ys) ys → xs ≡ ys
tails true x y xs ys same = ap (drop 1) same
tails false x y xs ys same = same

abbrev first_or : {X : Type 0} → X → List X → X
first_or other [] = other
first_or other (found ∷ others) = found

same_if_climbing : {X : Type 0} (key : X → ℕ) (xs ys : List X) → Climbs key xs → Climbs key ys → ((line : ℕ) → filter (at key line) xs ≡ filter (at key line) ys) → xs ≡ ys
same_if_climbing key [] [] none also same = refl
same_if_climbing key [] (y ∷ ys) none climbs same = absurd (some_kept key y (filter (at key (key y)) ys) (sym (same (key y))))
same_if_climbing key (x ∷ xs) [] climbs none same = absurd (some_kept key x (filter (at key (key x)) xs) (same (key x)))
same_if_climbing key (x ∷ xs) (y ∷ ys) (from_x, climbs_x) (from_y, climbs_y) same =
    λ j. heads j ∷ same_if_climbing key xs ys climbs_x climbs_y rests j
  where
    x_first : key x ≤ key y
    x_first = from_kept key (key x) (key y) (x ∷ xs) (omega (arith), from_x) (λ none. some_kept key y (filter (at key (key y)) ys) (sym (same (key y)) ∙ none))

    y_first : key y ≤ key x
    y_first = from_kept key (key y) (key x) (y ∷ ys) (omega (arith), from_y) (λ none. some_kept key x (filter (at key (key x)) xs) (same (key x) ∙ none))

    lines : key y ≡ key x
    lines = omega (arith, x_first, y_first)

    kept : x ∷ filter (at key (key x)) xs ≡ y ∷ filter (at key (key x)) ys
    kept =
        ap (λ t. cond t (x ∷ filter (at key (key x)) xs) (filter (at key (key x)) xs)) (sym (same_line (key x)))
        ∙ same (key x)
        ∙ ap (λ t. cond t (y ∷ filter (at key (key x)) ys) (filter (at key (key x)) ys)) (ap (λ n. nat_eq n (key x)) lines ∙ same_line (key x))

    heads : x ≡ y
    heads = ap (first_or x) kept

    rests : (line : ℕ) → filter (at key line) xs ≡ filter (at key line) ys
    rests line = tails (at key line x) x y (filter (at key line) xs) (filter (at key line) ys)
        (same line ∙ ap (λ t. cond t (y ∷ filter (at key line) ys) (filter (at key line) ys)) (ap (λ found. at key line found) (sym heads)))

-- a sorted list is in the order of lines
all_from : {X : Type 0} (key : X → ℕ) (low : ℕ) (others : List X) → ((k : ℕ) (d : X) → k < length others → low ≤ key (get_or others k d)) → AllFrom key low others
all_from key low [] from = tt
all_from key low (found ∷ others) from = (from 0 found (omega arith), all_from key low others (λ k d h. from (suc k) d (omega (arith, h))))

climbs_if_sorted : {X : Type 0} (key : X → ℕ) (others : List X) → IsNonDecreasingBy key others → Climbs key others
climbs_if_sorted key [] sorted = tt
climbs_if_sorted key (found ∷ others) sorted = (
  all_from key (key found) others (λ k d h. sorted 0 (suc k) d (omega arith) (omega (arith, h))),
  climbs_if_sorted key others (λ i j d less h. sorted (suc i) (suc j) d (omega (arith, less)) (omega (arith, h))),
)

stable_is_in_lines : {X : Type 0} (key : X → ℕ) (others sorted : List X) → IsNonDecreasingBy key sorted
    → ((line : ℕ) → filter (at key line) sorted ≡ filter (at key line) others) → sorted ≡ in_lines key others
stable_is_in_lines key others sorted rises stable =
    same_if_climbing key sorted (in_lines key others) (climbs_if_sorted key sorted rises) (in_lines_climb key others) (λ line. stable line ∙ sym (in_lines_at key line others))

neither_less : (m n : ℕ) → (not (nat_lt m n) && not (nat_lt n m)) ≡ nat_eq n m
neither_less m n = grind (arith, nat_tests)

compared : (less same : Bool) → is_lt (cond less Less (cond same Equal Greater)) ≡ less
compared true same = refl
compared false true = refl
compared false false = refl

less_compared : (m n : ℕ) → is_lt (nat_cmp m n) ≡ nat_lt m n
less_compared m n = compared (nat_lt m n) (nat_eq m n)

tie_at : {X : Type 0} (key : X → ℕ) (other found : X) → ties (λ (a b : X). is_lt (nat_cmp (key a) (key b))) other found ≡ at key (key other) found
tie_at key other found =
    (λ j. not (less_compared (key other) (key found) j) && not (less_compared (key found) (key other) j)) ∙ neither_less (key other) (key found)

-- a sort by line that keeps the order of ties puts a list in the order of lines, if a member can have each line
pub sorted_is_in_lines : {X : Type 0} (key : X → ℕ) (make : ℕ → X) → ((line : ℕ) → key (make line) ≡ line) → (others items sorted : List X) → items ≡ others
    → IsNonDecreasingBy key sorted → IsStableByKey key nat_cmp items sorted → sorted ≡ in_lines key others
sorted_is_in_lines key make made others items sorted same rises stable =
    stable_is_in_lines key others sorted rises
    (λ line.
    ap (λ n. filter (at key n) sorted) (sym (made line))
    ∙ ap (λ test. filter test sorted) (λ j found. sym (tie_at key (make line) found) j)
    ∙ stable (make line)
    ∙ ap (λ test. filter test items) (λ j found. tie_at key (make line) found j)
    ∙ ap (λ n. filter (at key n) items) (made line)
    ∙ ap (filter (at key line)) same)
