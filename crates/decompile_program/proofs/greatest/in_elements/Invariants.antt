use Rattle.std.proofs.Common.{◌≡◌}
use Rattle.std.specs.Prelude.{flat_map, fold, max}
use Rattle.decompile_program.specs.Marks.{element_marks}
use Rattle.decompile_program.proofs.greatest.in_elements.Given as goal

abbrev pub invariant-loop-element : goal.invariant-loop-element
invariant-loop-element l = fold max l.greatest (flat_map element_marks l.element-iterator) ≡ fold max l.fn.least (flat_map element_marks l.fn.elements)
