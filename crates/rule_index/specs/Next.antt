-- The next record that can hold.
use Rattle.std.specs.Prelude.{◌≡◌, ◌≢◌, ℕ, ◌<◌, ◌≤◌, List, length, slice_index_or, Option, Some, None}

-- the first number, from `from` on, that has one of the first `count` matching classes, or `None` if there is none
pub data IsNext (wanted : List ℕ) (count : ℕ) (classes : List ℕ) (from : ℕ) : Option ℕ → Type 0 where
  NoneIsLeft : (none : (n j : ℕ) → from ≤ n → n < length classes → j < count → slice_index_or classes n 0 ≢ slice_index_or wanted j 0)
      → IsNext wanted count classes from None
  IsTheNext : (number : ℕ) → (behind : from ≤ number) → (within : number < length classes)
      → (met : (j : ℕ) × (j < count) × (slice_index_or classes number 0 ≡ slice_index_or wanted j 0))
      → (skipped : (n j : ℕ) → from ≤ n → n < number → j < count → slice_index_or classes n 0 ≢ slice_index_or wanted j 0)
      → IsNext wanted count classes from (Some number)
