use Rattle.std.proofs.Common.{◌≡◌, ◌++◌, drop, filter}
use Rattle.shadow_text.specs.DeadLines.{is_dead}
use Rattle.shadow_text.proofs.dead_lines.dead_among.Given as goal

abbrev pub invariant-loop-line : goal.invariant-loop-line
invariant-loop-line l = l.dead.items ++ filter (is_dead l.all) (drop l.line-index l.lines) ≡ filter (is_dead l.all) l.lines
