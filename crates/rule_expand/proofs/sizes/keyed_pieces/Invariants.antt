use Rattle.std.proofs.Common.{◌≡◌, ◌++◌, drop}
use Rattle.std.specs.Prelude.{flat_map}
use Rattle.rule_expand.specs.Sizes.{keyed_of}
use Rattle.rule_expand.proofs.sizes.keyed_pieces.Given as goal

abbrev pub invariant-loop-piece : goal.invariant-loop-piece
invariant-loop-piece l = l.keyed.items ++ flat_map keyed_of (drop l.piece-index l.pieces) ≡ flat_map keyed_of l.pieces
