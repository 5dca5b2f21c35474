use Rattle.std.proofs.Common.{◌≡◌, map, drop}
use Rattle.virtual_keys.specs.Keys.{name_numbered}
use Rattle.virtual_keys.proofs.names.name_numbered.Given as goal

abbrev pub invariant-loop-row : goal.invariant-loop-row
invariant-loop-row l =
    name_numbered (map (λ row. (row.0.now, row.1)) (drop l.row-index l.table)) l.number ≡ name_numbered (map (λ row. (row.0.now, row.1)) l.table) l.number
