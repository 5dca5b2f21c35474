use Rattle.std.proofs.Common.{◌≡◌, map, take}
use Rattle.shadow_text.specs.DeadLines.{line_of}
use Rattle.shadow_text.proofs.dead_lines.rule_lines.Given as goal

abbrev pub invariant-loop-verdict : goal.invariant-loop-verdict
invariant-loop-verdict l = l.lines.items ≡ map line_of (take l.verdict-index l.all)
