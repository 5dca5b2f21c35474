use Rattle.std.proofs.Common.{◌≡◌, ◌++◌, drop, map}
use Rattle.chart_board.specs.Board.{board_key}
use Rattle.chart_board.proofs.board.put_board.Given as goal

abbrev pub invariant-loop-row : goal.invariant-loop-row
invariant-loop-row l =
    l.keys ++ map board_key (map (λ row. (row.0.now, row.1, row.2, row.3, row.4)) (drop l.row-index l.rows))
    ≡ l.fn.keys ++ map board_key (map (λ row. (row.0.now, row.1, row.2, row.3, row.4)) l.rows)
