use Rattle.std.proofs.Common.{◌≡◌, drop}
use Rattle.core_constructs.specs.Changes.{saves_before}
use Rattle.core_constructs.proofs.changes.saves_before.Given as goal

abbrev pub invariant-loop-i : goal.invariant-loop-i
invariant-loop-i l = saves_before l.changes (drop l.i l.items) l.more ≡ saves_before l.changes l.items l.more
