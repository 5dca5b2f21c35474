use Rattle.std.proofs.Common.{◌≡◌, false}
use Rattle.kmx_decompiler.specs.Causes.{stands_behind_match}
use Rattle.kmx_decompiler.proofs.items.stands_behind_match.Given as goal

abbrev pub invariant-loop-pattern : goal.invariant-loop-pattern
invariant-loop-pattern l = stands_behind_match l.matched l.pattern-iterator ≡ stands_behind_match false l.fn.context
