use Rattle.std.proofs.Common.{◌≡◌, drop}
use Rattle.shadow_text.specs.DeadLines.{is_dead}
use Rattle.shadow_text.proofs.dead_lines.is_dead.Given as goal

abbrev pub invariant-loop-verdict : goal.invariant-loop-verdict
invariant-loop-verdict l = is_dead (drop l.verdict-index l.all) l.line ≡ is_dead l.all l.line
