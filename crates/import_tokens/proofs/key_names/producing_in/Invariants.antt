use Rattle.std.proofs.Common.{◌≡◌, map, drop}
use Rattle.import_tokens.specs.Keys.{producing_in}
use Rattle.import_tokens.proofs.key_names.producing_in.Given as goal

abbrev pub invariant-loop-row : goal.invariant-loop-row
invariant-loop-row l =
    producing_in (map (λ row. (row.0.now, row.1)) (drop l.row-index l.table)) l.character ≡ producing_in (map (λ row. (row.0.now, row.1)) l.table) l.character
