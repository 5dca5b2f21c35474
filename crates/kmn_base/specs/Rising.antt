-- Rising lists of numbers, and the number of times that a number occurs in a list.
use Rattle.std.specs.Prelude.{ℕ, ◌+◌, ◌<◌, ◌==◌, Bool, nat_eq, if◌then◌else◌, List, [], ◌∷◌}
use Rattle.std.specs.List.{fold, list_any}
use Rattle.std.specs.Ordering.{nat_cmp}
use Rattle.std.specs.BTreeSet.{insert_key}

-- each number of a list is above another number
abbrev pub AllAbove : ℕ → List ℕ → Type 0
AllAbove low [] = Unit {0}
AllAbove low (n ∷ ns) = (low < n) × AllAbove low ns

-- each number of a list is above all numbers before it
abbrev pub Rises : List ℕ → Type 0
Rises [] = Unit {0}
Rises (n ∷ ns) = AllAbove n ns × Rises ns

-- the number of times that a number occurs in a list
abbrev pub times : ℕ → List ℕ → ℕ
times n [] = 0
times n (m ∷ ms) = (if n == m then 1 else 0) + times n ms

-- whether a number is in a list
abbrev pub is_among : ℕ → List ℕ → Bool
is_among n ns = list_any (nat_eq n) ns

-- the distinct numbers of a list, sorted
abbrev pub rising : List ℕ → List ℕ
rising ns = fold (insert_key nat_cmp) [] ns
