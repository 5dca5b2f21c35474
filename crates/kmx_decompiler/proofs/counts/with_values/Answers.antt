use Rattle.std.proofs.Common.{length, map}
use Rattle.kmx_decompiler.specs.Counting.{with_lengths}
use Rattle.kmx_decompiler.proofs.Lengths.{next_length}
use Rattle.kmx_decompiler.proofs.counts.with_values.Goals as goal

pub loop-place-preserved : goal.loop-place-preserved
loop-place-preserved c =
    next_length c.loop-place.counts c.with-counts.result (with_lengths c.args.counts (map length c.args.values.now)) c.args.values.now c.loop-place.place c.in-Some.value.now
    c.in-Some.ensures c.with-counts.ensures c.loop-place.invariant
