use Rattle.std.proofs.Common.{◌≡◌, drop}
use Rattle.core_constructs.specs.Empty.{from_empty}
use Rattle.core_constructs.proofs.empty.from_empty.Given as goal

abbrev pub invariant-loop-i : goal.invariant-loop-i
invariant-loop-i l = from_empty (drop l.i l.rules) ≡ from_empty l.rules
