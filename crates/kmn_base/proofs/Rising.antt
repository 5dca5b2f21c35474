-- A rising list of numbers still rises after a larger number is appended.
use Rattle.std.proofs.Common.{◌≡◌, ℕ, ◌+◌, ◌==◌, ◌<◌, ◌≤◌, if◌then◌else◌, List, [], ◌∷◌, ◌++◌, refl, arith}
use Rattle.kmn_base.specs.Rising.{AllAbove, Rises, times}

-- each number of a list is below another number
abbrev pub AllBelow : ℕ → List ℕ → Type 0
AllBelow high [] = Unit {0}
AllBelow high (n ∷ ns) = (n < high) × AllBelow high ns

pub AllBelow-more : (low high : ℕ) (ns : List ℕ) → low ≤ high → AllBelow low ns → AllBelow high ns
AllBelow-more low high [] le below = tt
AllBelow-more low high (n ∷ ns) le (here, rest) = (omega (arith, here, le), AllBelow-more low high ns le rest)

pub AllBelow-push : (high n : ℕ) (ns : List ℕ) → n < high → AllBelow high ns → AllBelow high (ns ++ n ∷ [])
AllBelow-push high n [] lt below = (lt, tt)
AllBelow-push high n (m ∷ ms) lt (here, rest) = (here, AllBelow-push high n ms lt rest)

pub AllBelow-front : (high : ℕ) (ns ms : List ℕ) → AllBelow high (ns ++ ms) → AllBelow high ns
AllBelow-front high [] ms below = tt
AllBelow-front high (n ∷ ns) ms (here, rest) = (here, AllBelow-front high ns ms rest)

pub AllBelow-back : (high : ℕ) (ns ms : List ℕ) → AllBelow high (ns ++ ms) → AllBelow high ms
AllBelow-back high [] ms below = below
AllBelow-back high (n ∷ ns) ms (here, rest) = AllBelow-back high ns ms rest

pub AllAbove-push : (low n : ℕ) (ns : List ℕ) → low < n → AllAbove low ns → AllAbove low (ns ++ n ∷ [])
AllAbove-push low n [] lt above = (lt, tt)
AllAbove-push low n (m ∷ ms) lt (here, rest) = (here, AllAbove-push low n ms lt rest)

-- a number above all others can be appended
pub Rises-push : (n : ℕ) (ns : List ℕ) → AllBelow n ns → Rises ns → Rises (ns ++ n ∷ [])
Rises-push n [] below rises = (tt, tt)
Rises-push n (m ∷ ms) (here, below) (above, rises) = (AllAbove-push m n ms here above, Rises-push n ms below rises)

pub times-push : (n m : ℕ) (ms : List ℕ) → times n (ms ++ m ∷ []) ≡ times n ms + (if n == m then 1 else 0)
times-push n m [] = omega arith
times-push n m (k ∷ ks) = let rest = times-push n m ks in omega (arith, rest)

-- a number above all numbers of a list is not in the list
pub times-none : (n : ℕ) (ns : List ℕ) → AllBelow n ns → times n ns ≡ 0
times-none n [] below = refl
times-none n (m ∷ ms) (here, below) = let rest = times-none n ms below in grind (arith, here, rest)
