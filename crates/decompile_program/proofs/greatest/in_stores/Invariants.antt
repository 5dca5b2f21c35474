use Rattle.std.proofs.Common.{◌≡◌}
use Rattle.std.specs.Prelude.{flat_map, fold, max}
use Rattle.decompile_program.specs.Marks.{store_marks}
use Rattle.decompile_program.proofs.greatest.in_stores.Given as goal

abbrev pub invariant-loop-store : goal.invariant-loop-store
invariant-loop-store l = fold max l.greatest (flat_map store_marks l.store-iterator) ≡ fold max l.fn.least (flat_map store_marks l.file.stores)
