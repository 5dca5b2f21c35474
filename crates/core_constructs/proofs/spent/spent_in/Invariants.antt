use Rattle.std.proofs.Common.{◌≡◌}
use Rattle.core_constructs.specs.Spent.{spent_within}
use Rattle.core_constructs.proofs.spent.spent_in.Given as goal

abbrev pub invariant-loop-entry : goal.invariant-loop-entry
invariant-loop-entry l = l.spent ≡ spent_within l._entry l.facts l.groups
