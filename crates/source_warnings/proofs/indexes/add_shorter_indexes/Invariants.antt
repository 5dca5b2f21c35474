use Rattle.std.proofs.Common.{◌≡◌, ◌++◌, take}
use Rattle.source_warnings.specs.Indexes.{shorter_indexes}
use Rattle.source_warnings.proofs.indexes.add_shorter_indexes.Given as goal

abbrev pub invariant-loop-pair : goal.invariant-loop-pair
invariant-loop-pair l = l.found.items ≡ l.fn.found.items ++ shorter_indexes l.contents (take l.pair-index l.pairs)
