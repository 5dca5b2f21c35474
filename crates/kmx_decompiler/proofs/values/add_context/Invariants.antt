use Rattle.std.proofs.Common.{◌≡◌}
use Rattle.std.specs.Prelude.{flat_map}
use Rattle.decompile_program.specs.WrittenOut.{pattern_values}
use Rattle.kmx_decompiler.specs.Values.{with_values}
use Rattle.kmx_decompiler.proofs.values.add_context.Given as goal

abbrev pub invariant-loop-pattern : goal.invariant-loop-pattern
invariant-loop-pattern l = with_values l.names l.values (flat_map pattern_values l.pattern-iterator) ≡ with_values l.names l.initial.values (flat_map pattern_values l.fn.context)
