use Rattle.std.proofs.Common.{◌≡◌}
use Rattle.std.specs.Prelude.{flat_map, fold, max}
use Rattle.decompile_program.specs.Marks.{group_marks}
use Rattle.decompile_program.proofs.greatest.in_groups.Given as goal

abbrev pub invariant-loop-group : goal.invariant-loop-group
invariant-loop-group l = fold max l.greatest (flat_map group_marks l.group-iterator) ≡ fold max l.fn.least (flat_map group_marks l.file.groups)
