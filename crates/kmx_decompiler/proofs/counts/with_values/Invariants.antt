use Rattle.std.proofs.Common.{◌≡◌, drop, length, map}
use Rattle.kmx_decompiler.specs.Counting.{with_lengths}
use Rattle.kmx_decompiler.proofs.counts.with_values.Given as goal

abbrev pub invariant-loop-place : goal.invariant-loop-place
invariant-loop-place l = with_lengths l.counts (map length (drop l.place l.values)) ≡ with_lengths l.initial.counts (map length l.values)
