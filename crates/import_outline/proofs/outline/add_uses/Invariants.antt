use Rattle.std.proofs.Common.{◌≡◌, ◌++◌, length}
use Rattle.import_outline.specs.Outline.{uses_in}
use Rattle.import_outline.proofs.outline.add_uses.Given as goal

abbrev pub invariant-loop-rest : goal.invariant-loop-rest
invariant-loop-rest l = l.uses ++ uses_in l.group l.rest ≡ l.initial.uses ++ uses_in l.group l.fn.output

abbrev pub decreases-loop-rest : goal.decreases-loop-rest
decreases-loop-rest l = length l.rest
