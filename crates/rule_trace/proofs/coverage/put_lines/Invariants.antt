use Rattle.std.proofs.Common.{◌≡◌, ◌++◌, take}
use Rattle.rule_trace.specs.Coverage.{rule_lines}
use Rattle.rule_trace.proofs.coverage.put_lines.Given as goal

abbrev pub invariant-loop-rule : goal.invariant-loop-rule
invariant-loop-rule l = l.lines.items ≡ l.fn.lines.items ++ rule_lines (take l.rule-index l.rules)
