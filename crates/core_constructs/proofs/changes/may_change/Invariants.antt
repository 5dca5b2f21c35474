use Rattle.std.proofs.Common.{◌≡◌}
use Rattle.core_constructs.specs.Changes.{changes_within}
use Rattle.core_constructs.proofs.changes.may_change.Given as goal

abbrev pub invariant-loop-entry : goal.invariant-loop-entry
invariant-loop-entry l = l.changes ≡ changes_within l._entry l.tables.groups
