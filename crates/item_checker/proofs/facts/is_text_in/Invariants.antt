use Rattle.std.proofs.Common.{◌≡◌, ℕ, List, drop, map}
use Rattle.std.specs.List.{list_any}
use Rattle.std.specs.Str.{bytes_eq}
use Rattle.item_checker.proofs.facts.is_text_in.Given as goal

abbrev pub invariant-loop-row : goal.invariant-loop-row
invariant-loop-row l =
    list_any (λ (row : List ℕ × ℕ). bytes_eq row.0 l.front) (map (λ row. (row.0.now, row.1)) (drop l.row-index l.table))
    ≡ list_any (λ (row : List ℕ × ℕ). bytes_eq row.0 l.front) (map (λ row. (row.0.now, row.1)) l.table)
