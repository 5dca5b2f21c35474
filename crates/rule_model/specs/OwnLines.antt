-- Rules with distinct lines.
use Rattle.std.specs.Prelude.{Bool, true, not, ◌&&◌, nat_eq, List, [], ◌∷◌}
use Rattle.std.specs.List.{list_any}
use Rattle.rule_model.specs.declared.program.RuleDef.{RuleDef}

-- whether each rule has its own line
abbrev pub have_own_lines : List RuleDef → Bool
have_own_lines [] = true
have_own_lines (rule ∷ rules) = not (list_any (λ (other : RuleDef). nat_eq other.line rule.line) rules) && have_own_lines rules
