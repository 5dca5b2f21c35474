use Rattle.std.proofs.Common.{◌≡◌}
use Rattle.std.specs.Prelude.{flat_map}
use Rattle.indexed_tables.specs.OptionFlags.{with_flags}
use Rattle.decompile_program.specs.Names.{named_by_output}
use Rattle.decompile_program.proofs.used.mark_outputs.Given as goal

abbrev pub invariant-loop-output : goal.invariant-loop-output
invariant-loop-output l = with_flags l.flags (flat_map named_by_output l.output-iterator) ≡ with_flags l.fn.flags (flat_map named_by_output l.fn.outputs)
