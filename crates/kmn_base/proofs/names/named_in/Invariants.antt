use Rattle.std.proofs.Common.{◌≡◌, map, drop}
use Rattle.kmn_base.specs.Names.{named_in}
use Rattle.kmn_base.proofs.names.named_in.Given as goal

abbrev pub invariant-loop-row : goal.invariant-loop-row
invariant-loop-row g l =
    named_in (map (λ row. (row.0.now, row.1)) (drop l.row-index l.table)) l.name ≡ named_in (map (λ row. (row.0.now, row.1)) l.table) l.name
