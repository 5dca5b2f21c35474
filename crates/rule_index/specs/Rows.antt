-- The rows of records or elements, sorted by class.
use Rattle.std.specs.Prelude.{◌≡◌, ℕ, ◌+◌, ◌*◌, ◌<◌, ◌≤◌, List, length, All, slice_index_or, Option, Some, None, nat_eq, if◌then◌else◌}
use Rattle.std.specs.List.Sorted.{IsNonDecreasingBy}
use Rattle.kmn_base.specs.declared.limits.TheConstants.{RECORDS}
use Rattle.rule_index.specs.declared.row.Row.{Row}
use Rattle.rule_index.specs.declared.row.TheConstants.{NO_ROW}

-- a class and the number of a row as one number
abbrev pub ranked : ℕ → ℕ → ℕ
ranked class number = class * NO_ROW + number

-- the rank of a row: rows are sorted by class, and rows of one class by number
abbrev pub rank : Row → ℕ
rank row = ranked row.class row.number

-- a row for each class, in their order
abbrev pub AreNumbered : List ℕ → List Row → Type 0
AreNumbered classes rows =
    (length rows ≡ length classes) × ((n : ℕ) (d : Row) → n < length rows → ((slice_index_or rows n d).number ≡ n) × ((slice_index_or rows n d).class ≡ slice_index_or classes n 0))

-- a number has a row, and the row has the class of the number
pub record HasRow (classes : List ℕ) (rows : List Row) (n : ℕ) : Type 0 where
  pub place : ℕ
  pub within : place < length rows
  pub number : (d : Row) → (slice_index_or rows place d).number ≡ n
  pub class : (d : Row) → (slice_index_or rows place d).class ≡ slice_index_or classes n 0

-- the rows of all classes, one for each, sorted
pub record IsIndexOf (classes : List ℕ) (rows : List Row) : Type 0 where
  pub few : length classes ≤ RECORDS
  pub count : length rows ≡ length classes
  pub sorted : IsNonDecreasingBy rank rows
  pub numbers : All (λ row. row.number < length classes) rows
  pub right : All (λ row. row.class ≡ slice_index_or classes row.number 0) rows
  pub complete : (n : ℕ) → n < length classes → HasRow classes rows n

-- the rows before a place have ranks less than a start
abbrev pub AreBefore : ℕ → List Row → ℕ → Type 0
AreBefore start rows place = (k : ℕ) (d : Row) → k < place → k < length rows → rank (slice_index_or rows k d) < start

-- the rows before a place are the rows whose rank is less than a start
pub record StartsAt (start : ℕ) (rows : List Row) (place : ℕ) : Type 0 where
  pub before : AreBefore start rows place
  pub behind : (k : ℕ) (d : Row) → place ≤ k → k < length rows → start ≤ rank (slice_index_or rows k d)

-- the number of an optional row, if the row has a class
abbrev pub number_if : ℕ → Option Row → Option ℕ
number_if class None = None
number_if class (Some row) = if nat_eq row.class class then Some row.number else None
