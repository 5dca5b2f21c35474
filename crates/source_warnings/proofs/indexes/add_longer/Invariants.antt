use Rattle.std.proofs.Common.{◌≡◌, ◌++◌, map, take}
use Rattle.source_warnings.specs.Indexes.{longer_warning}
use Rattle.source_warnings.proofs.indexes.add_longer.Given as goal

abbrev pub invariant-loop-pair : goal.invariant-loop-pair
invariant-loop-pair l = l.found.items ≡ l.fn.found.items ++ map longer_warning (take l.pair-index l.pairs)
