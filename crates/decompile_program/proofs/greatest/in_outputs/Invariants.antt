use Rattle.std.proofs.Common.{◌≡◌}
use Rattle.std.specs.Prelude.{flat_map, fold, max}
use Rattle.decompile_program.specs.Marks.{output_marks}
use Rattle.decompile_program.proofs.greatest.in_outputs.Given as goal

abbrev pub invariant-loop-output : goal.invariant-loop-output
invariant-loop-output l = fold max l.greatest (flat_map output_marks l.output-iterator) ≡ fold max l.fn.least (flat_map output_marks l.fn.outputs)
