use Rattle.std.proofs.Common.{◌≡◌, ◌++◌, drop, flat_map, map}
use Rattle.refusal_details.specs.Keys.{like_row}
use Rattle.refusal_details.proofs.keys.add_like_rows.Given as goal

abbrev pub invariant-loop-row : goal.invariant-loop-row
invariant-loop-row l =
    l.names ++ flat_map (like_row l.word) (map (λ row. (row.0.now, row.1)) (drop l.row-index l.table))
    ≡ l.fn.names ++ flat_map (like_row l.word) (map (λ row. (row.0.now, row.1)) l.table)
