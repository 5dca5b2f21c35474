-- The first number that has a class, from a number on.
use Rattle.std.specs.Prelude.{◌≡◌, ◌≢◌, ℕ, ◌<◌, ◌≤◌, List, length, slice_index_or, Option, Some, None}

-- the first number, from `from` on, that has a class, or `None` if there is none
pub data IsFirstOf (class : ℕ) (classes : List ℕ) (from : ℕ) : Option ℕ → Type 0 where
  NoneOf : (none : (n : ℕ) → from ≤ n → n < length classes → slice_index_or classes n 0 ≢ class) → IsFirstOf class classes from None
  FirstOf : (number : ℕ) → (behind : from ≤ number) → (within : number < length classes) → (met : slice_index_or classes number 0 ≡ class)
      → (skipped : (n : ℕ) → from ≤ n → n < number → slice_index_or classes n 0 ≢ class) → IsFirstOf class classes from (Some number)
