-- An iterator over the records that have a matching class.
use Rattle.std.specs.Prelude.{◌≡◌, ℕ, ◌+◌, ◌<◌, ◌≤◌, List, length, slice_index_or, Option, Some, None}
use Rattle.std.specs.List.{All}
use Rattle.rule_index.specs.declared.row.Row.{Row}
use Rattle.rule_index.specs.declared.cursor.Cursor.{Cursor}
use Rattle.rule_index.specs.declared.current_run.CurrentRun.{CurrentRun}
use Rattle.rule_index.specs.Rows.{ranked, IsIndexOf, AreBefore}

-- the rows of a group, the matching classes, and the lowest number that the iterator can return
pub record CandidatesValue : Type 0 where
  pub rows : List Row
  pub wanted : List ℕ
  pub from : ℕ

-- the lowest number that the iterator can return after this result
abbrev pub behind : ℕ → Option ℕ → ℕ
behind from None = from
behind from (Some number) = number + 1

-- a cursor has not passed a row of its class whose number is at least `from`
abbrev pub CursorIsValid : List Row → ℕ → Cursor → Type 0
CursorIsValid rows from head = (classes : List ℕ) → IsIndexOf classes rows → AreBefore (ranked head.class from) rows head.place

-- no cursor has passed a row of its class whose number is at least `from`
abbrev pub CursorsAreValid : List Row → ℕ → List Cursor → Type 0
CursorsAreValid rows from heads = All (CursorIsValid rows from) heads

-- a lead has a matching class and has not passed a row of this class whose number is at least `from`, and each number from `from` to its
-- limit that has a matching class has this class
pub record RunIsValid (rows : List Row) (wanted : List ℕ) (from : ℕ) (lead : CurrentRun) : Type 0 where
  pub among : (j : ℕ) × (j < length wanted) × (lead.head.class ≡ slice_index_or wanted j 0)
  pub stands : CursorIsValid rows from lead.head
  pub alone : (classes : List ℕ) → IsIndexOf classes rows → (n j : ℕ) → from ≤ n → n < lead.limit → n < length classes → j < length wanted
      → slice_index_or classes n 0 ≡ slice_index_or wanted j 0 → slice_index_or classes n 0 ≡ lead.head.class
