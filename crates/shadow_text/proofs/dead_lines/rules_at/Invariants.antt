use Rattle.std.proofs.Common.{◌≡◌, map, take}
use Rattle.shadow_text.specs.DeadLines.{dead_rule}
use Rattle.shadow_text.proofs.dead_lines.rules_at.Given as goal

abbrev pub invariant-loop-line : goal.invariant-loop-line
invariant-loop-line l = l.rules.items ≡ map (dead_rule l.all) (take l.line-index l.dead)
