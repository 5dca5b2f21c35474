use Rattle.std.proofs.Common.{◌≡◌, flat_map, take}
use Rattle.source_uses.specs.Pairs.{group_pairs}
use Rattle.source_uses.proofs.pairs.index_pairs.Given as goal

abbrev pub invariant-loop-group : goal.invariant-loop-group
invariant-loop-group l = l.pairs.items ≡ flat_map (group_pairs l.options) (take l.group-index l.program.groups)
