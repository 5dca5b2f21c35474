use Rattle.std.proofs.Common.{◌≡◌, take}
use Rattle.std.specs.Prelude.{flat_map}
use Rattle.rule_expand.specs.Pieces.{item_pieces}
use Rattle.rule_expand.proofs.pieces.pieces_of.Given as goal

abbrev pub invariant-loop-item : goal.invariant-loop-item
invariant-loop-item l = l.pieces.items ≡ flat_map (item_pieces l.numbers l.count) (take l.item-index l.items)
