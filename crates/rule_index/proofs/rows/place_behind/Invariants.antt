use Rattle.std.proofs.Common.{◌≤◌, ◌<◌, ◌-◌, ℕ, slice_index_or, length}
use Rattle.rule_index.specs.declared.row.Row.{Row}
use Rattle.rule_index.specs.Rows.{rank}
use Rattle.rule_index.proofs.rows.place_behind.Given as goal

abbrev pub invariant-loop-row : goal.invariant-loop-row
invariant-loop-row l = record {
  forth : l.passed ≤ l.place;
  less : (k : ℕ) (d : Row) → l.passed ≤ k → k < l.place → k < length l.rows → rank (slice_index_or l.rows k d) < l.start;
}

abbrev pub decreases-loop-row : goal.decreases-loop-row
decreases-loop-row l = length l.rows - l.place
