use Rattle.std.proofs.Common.{◌≡◌, take}
use Rattle.core_export.proofs.same.same_rules.Given as goal

abbrev pub invariant-loop-i : goal.invariant-loop-i
invariant-loop-i l = take l.i l.a ≡ take l.i l.b
