use Rattle.std.proofs.Common.{◌≡◌, drop}
use Rattle.kmx_decompiler.specs.Unspelled.{first_longer, longer_behind}
use Rattle.kmx_decompiler.proofs.order.first_longer.Given as goal

abbrev pub invariant-loop-number : goal.invariant-loop-number
invariant-loop-number l = longer_behind l.number l.previous (drop l.number l.group.rules) ≡ first_longer l.group.rules
