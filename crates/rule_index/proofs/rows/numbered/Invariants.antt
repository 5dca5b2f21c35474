use Rattle.std.proofs.Common.{◌≡◌, ◌<◌, ℕ, slice_index_or, length}
use Rattle.rule_index.specs.declared.row.Row.{Row}
use Rattle.rule_index.proofs.rows.numbered.Given as goal

abbrev pub invariant-loop-number : goal.invariant-loop-number
invariant-loop-number l =
    (length l.rows.items ≡ l.number)
    × ((n : ℕ) (d : Row) → n < length l.rows.items → ((slice_index_or l.rows.items n d).number ≡ n) × ((slice_index_or l.rows.items n d).class ≡ slice_index_or l.classes n 0))
