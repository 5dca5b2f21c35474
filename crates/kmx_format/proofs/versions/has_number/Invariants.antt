use Rattle.std.proofs.Common.{◌≡◌, ℕ, List, nat_eq, drop, map}
use Rattle.std.specs.List.{list_any}
use Rattle.kmx_format.proofs.versions.has_number.Given as goal

abbrev pub invariant-loop-row : goal.invariant-loop-row
invariant-loop-row l =
    list_any (nat_eq l.number) (map (λ (row : List ℕ × ℕ). row.1) (map (λ row. (row.0.now, row.1)) (drop l.row-index l.table)))
    ≡ list_any (nat_eq l.number) (map (λ (row : List ℕ × ℕ). row.1) (map (λ row. (row.0.now, row.1)) l.table))
