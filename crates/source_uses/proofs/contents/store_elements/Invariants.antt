use Rattle.std.proofs.Common.{◌≡◌, flat_map, take}
use Rattle.source_uses.specs.Elements.{brought}
use Rattle.source_uses.proofs.contents.store_elements.Given as goal

abbrev pub invariant-loop-item : goal.invariant-loop-item
invariant-loop-item l = l.elements ≡ flat_map (brought l.contents) (take l.item-index l.items)
