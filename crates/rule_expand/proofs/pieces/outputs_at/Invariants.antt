use Rattle.std.proofs.Common.{◌≡◌, take}
use Rattle.std.specs.Prelude.{flat_map}
use Rattle.rule_expand.specs.Pieces.{piece_outs}
use Rattle.rule_expand.proofs.pieces.outputs_at.Given as goal

abbrev pub invariant-loop-piece : goal.invariant-loop-piece
invariant-loop-piece l = l.output.items ≡ flat_map (piece_outs l.numbers.stores l.place) (take l.piece-index l.pieces)
