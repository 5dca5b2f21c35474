-- The lines of the rules that are found to be dead.
use Rattle.std.proofs.Common.{◌≡◌, ℕ, List, [], ◌∷◌, map, refl, ap}
use Rattle.shadow_text.specs.declared.verdicts.Verdict.{Verdict}
use Rattle.shadow_text.specs.Verdicts.{verdicts}
use Rattle.shadow_text.specs.DeadLines.{FoundAreDeadLines, dead_among, dead_lines, dead_list, dead_rule, found_dead, rule_line}

lines_listed : (all : List Verdict) (lines : List ℕ) → map rule_line (map (dead_rule all) lines) ≡ lines
lines_listed all [] = refl
lines_listed all (line ∷ lines) = ap (λ rest. line ∷ rest) (lines_listed all lines)

pub found_are : FoundAreDeadLines
unfolding found_dead dead_list dead_lines
found_are tables = lines_listed (verdicts tables) (dead_among (verdicts tables))
