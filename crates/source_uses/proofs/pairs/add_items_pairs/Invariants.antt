use Rattle.std.proofs.Common.{◌≡◌, ◌++◌, take}
use Rattle.source_uses.specs.Pairs.{items_pairs}
use Rattle.source_uses.proofs.pairs.add_items_pairs.Given as goal

abbrev pub invariant-loop-item : goal.invariant-loop-item
invariant-loop-item l = l.pairs.items ≡ l.fn.pairs.items ++ items_pairs l.options l.rule (take l.item-index l.items)
