use Rattle.std.proofs.Common.{◌≡◌, ◌++◌, drop}
use Rattle.chart_board.specs.Board.{own_keys}
use Rattle.chart_board.proofs.board.put_own.Given as goal

abbrev pub invariant-loop-number : goal.invariant-loop-number
invariant-loop-number l = l.keys ++ own_keys l.number (drop l.number l.names) ≡ l.fn.keys ++ own_keys 0 l.names
