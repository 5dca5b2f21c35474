use Rattle.std.proofs.Common.{◌≡◌, drop}
use Rattle.kmx_decompiler.specs.Counting.{with_lengths, called_lengths}
use Rattle.kmx_decompiler.proofs.counts.with_stores.Given as goal

abbrev pub invariant-loop-number : goal.invariant-loop-number
invariant-loop-number l = with_lengths l.counts (called_lengths l.names.stores l.number (drop l.number l.stores)) ≡ with_lengths l.initial.counts (called_lengths l.names.stores 0 l.stores)
