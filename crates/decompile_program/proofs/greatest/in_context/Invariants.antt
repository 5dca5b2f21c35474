use Rattle.std.proofs.Common.{◌≡◌}
use Rattle.std.specs.Prelude.{flat_map, fold, max}
use Rattle.decompile_program.specs.Marks.{pattern_marks}
use Rattle.decompile_program.proofs.greatest.in_context.Given as goal

abbrev pub invariant-loop-pattern : goal.invariant-loop-pattern
invariant-loop-pattern l = fold max l.greatest (flat_map pattern_marks l.pattern-iterator) ≡ fold max l.fn.least (flat_map pattern_marks l.fn.context)
