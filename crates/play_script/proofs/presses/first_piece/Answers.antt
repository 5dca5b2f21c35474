use Rattle.std.proofs.Common.{arith}
use Rattle.play_script.proofs.LineLaws.{piece_steps}
use Rattle.play_script.proofs.presses.first_piece.Goals as goal

pub returns-clause-parts : goal.returns-clause-parts
returns-clause-parts c = grind (arith, piece_steps)

pub returns-clause-nearer : goal.returns-clause-nearer
returns-clause-nearer c = grind (arith, piece_steps)
