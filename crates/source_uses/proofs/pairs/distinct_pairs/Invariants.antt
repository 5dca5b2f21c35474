use Rattle.std.proofs.Common.{◌≡◌, ◌++◌, [], drop}
use Rattle.source_uses.specs.Pairs.{distinct_pairs}
use Rattle.source_uses.proofs.pairs.distinct_pairs.Given as goal

abbrev pub invariant-loop-pair : goal.invariant-loop-pair
invariant-loop-pair l = l.new.items ++ distinct_pairs l.known (drop l.pair-index l.pairs) ≡ distinct_pairs [] l.pairs
