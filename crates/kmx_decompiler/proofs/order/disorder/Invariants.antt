use Rattle.std.proofs.Common.{◌≡◌, drop}
use Rattle.kmx_decompiler.specs.Unspelled.{disorder}
use Rattle.kmx_decompiler.proofs.order.disorder.Given as goal

abbrev pub invariant-loop-group : goal.invariant-loop-group
invariant-loop-group l = disorder l.group (drop l.group l.file.groups) ≡ disorder 0 l.file.groups
