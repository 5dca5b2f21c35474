use Rattle.std.proofs.Common.{◌≡◌, ◌+◌, drop}
use Rattle.kmx_decompiler.specs.Counting.{spaced_size}
use Rattle.kmx_decompiler.proofs.counts.spaced_size.Given as goal

abbrev pub invariant-loop-name : goal.invariant-loop-name
invariant-loop-name l = l.size + spaced_size (drop l.name-index l.names) ≡ spaced_size l.names
