use Rattle.std.proofs.Common.{◌≡◌, ◌+◌, ◌≤◌, drop}
use Rattle.std.specs.List.{fold}
use Rattle.refusal_places.specs.Columns.{column_after}
use Rattle.refusal_places.proofs.columns.column_behind.Given as goal

abbrev pub invariant-loop-byte : goal.invariant-loop-byte
invariant-loop-byte l = record {
  column : fold column_after l.column (drop l.byte-index l.text) ≡ fold column_after 1 l.text;
  within : l.column ≤ l.byte-index + 1;
}
