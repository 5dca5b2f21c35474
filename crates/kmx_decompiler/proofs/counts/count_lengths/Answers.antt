use Rattle.std.proofs.Common.{arith}
use Rattle.kmx_decompiler.proofs.Lengths.{with_lengths_append}
use Rattle.decompile_program.specs.WrittenOut.{table_values}
use Rattle.kmx_decompiler.proofs.counts.count_lengths.Goals as goal

pub returns : goal.returns
unfolding table_values
returns c = grind (arith, with_lengths_append)
