use Rattle.std.proofs.Common.{◌≡◌}
use Rattle.core_constructs.specs.Queued.{effects_within}
use Rattle.core_constructs.proofs.queued.effects_of.Given as goal

abbrev pub invariant-loop-entry : goal.invariant-loop-entry
invariant-loop-entry l = l.effects ≡ effects_within l._entry l.groups
