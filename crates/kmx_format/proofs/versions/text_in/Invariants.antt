use Rattle.std.proofs.Common.{◌≡◌, ℕ, List, nat_eq, drop, map}
use Rattle.std.specs.Prelude.{find}
use Rattle.kmx_format.proofs.versions.text_in.Given as goal

abbrev pub invariant-loop-row : goal.invariant-loop-row
invariant-loop-row l =
    find (λ (row : List ℕ × ℕ). nat_eq row.1 l.number) (map (λ row. (row.0.now, row.1)) (drop l.row-index l.table))
    ≡ find (λ (row : List ℕ × ℕ). nat_eq row.1 l.number) (map (λ row. (row.0.now, row.1)) l.table)
