use Rattle.std.proofs.Common.{◌≡◌, ◌+◌, drop}
use Rattle.rule_expand.specs.Sizes.{fixed_size}
use Rattle.rule_expand.proofs.sizes.fixed_size.Given as goal

abbrev pub invariant-loop-piece : goal.invariant-loop-piece
invariant-loop-piece l = l.size + fixed_size (drop l.piece-index l.pieces) ≡ fixed_size l.pieces
