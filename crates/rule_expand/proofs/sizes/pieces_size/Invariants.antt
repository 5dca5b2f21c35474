use Rattle.std.proofs.Common.{◌≡◌, ◌+◌, drop}
use Rattle.rule_expand.specs.Sizes.{pieces_size}
use Rattle.rule_expand.proofs.sizes.pieces_size.Given as goal

abbrev pub invariant-loop-piece : goal.invariant-loop-piece
invariant-loop-piece l = l.size + pieces_size l.numbers.stores l.place (drop l.piece-index l.pieces) ≡ pieces_size l.numbers.stores l.place l.pieces
