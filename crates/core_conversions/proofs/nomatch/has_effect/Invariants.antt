use Rattle.std.proofs.Common.{◌≡◌, drop}
use Rattle.core_conversions.specs.Conversions.{has_effect}
use Rattle.core_conversions.proofs.nomatch.has_effect.Given as goal

abbrev pub invariant-loop-item : goal.invariant-loop-item
invariant-loop-item l = has_effect (drop l.item-index l.outputs) ≡ has_effect l.outputs
