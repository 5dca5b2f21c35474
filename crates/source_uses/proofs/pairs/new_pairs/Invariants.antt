use Rattle.std.proofs.Common.{◌≡◌, ◌++◌, drop}
use Rattle.source_uses.specs.Pairs.{new_pairs}
use Rattle.source_uses.proofs.pairs.new_pairs.Given as goal

abbrev pub invariant-loop-pair : goal.invariant-loop-pair
invariant-loop-pair l = l.new.items ++ new_pairs l.known (drop l.pair-index l.pairs) ≡ new_pairs l.fn.known l.pairs
