use Rattle.std.proofs.Common.{◌≡◌, ◌++◌, take}
use Rattle.source_uses.specs.Uses.{items_uses}
use Rattle.source_uses.proofs.walking.add_items_uses.Given as goal

abbrev pub invariant-loop-item : goal.invariant-loop-item
invariant-loop-item l = l.uses.items ≡ l.fn.uses.items ++ items_uses l.role l.line (take l.item-index l.items)
