use Rattle.std.proofs.Common.{◌≡◌, ℕ, List, drop, map}
use Rattle.std.specs.Prelude.{find}
use Rattle.rule_model.specs.Match.{same_value}
use Rattle.rule_model.specs.Src.{value_elements}
use Rattle.rule_expand.proofs.versions.version_in.Given as goal

abbrev pub invariant-loop-row : goal.invariant-loop-row
invariant-loop-row l =
    find (λ (row : List ℕ × ℕ). same_value (value_elements row.0) l.elements) (map (λ row. (row.0.now, row.1)) (drop l.row-index l.table))
    ≡ find (λ (row : List ℕ × ℕ). same_value (value_elements row.0) l.elements) (map (λ row. (row.0.now, row.1)) l.table)
