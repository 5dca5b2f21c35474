use Rattle.std.proofs.Common.{◌≡◌}
use Rattle.std.specs.Prelude.{flat_map}
use Rattle.decompile_program.specs.WrittenOut.{output_values}
use Rattle.kmx_decompiler.specs.Values.{with_values}
use Rattle.kmx_decompiler.proofs.values.add_outputs.Given as goal

abbrev pub invariant-loop-output : goal.invariant-loop-output
invariant-loop-output l = with_values l.names l.values (flat_map output_values l.output-iterator) ≡ with_values l.names l.initial.values (flat_map output_values l.fn.outputs)
