use Rattle.std.proofs.Common.{◌≡◌}
use Rattle.core_constructs.specs.Reached.{reached_within}
use Rattle.core_constructs.proofs.reached.reached_groups.Given as goal

abbrev pub invariant-loop-entry : goal.invariant-loop-entry
invariant-loop-entry l = record {
  reached : l.reached ≡ l.numbers;
  numbers : l.numbers ≡ reached_within l._entry l.tables.groups l.tables.start_unicode;
}
