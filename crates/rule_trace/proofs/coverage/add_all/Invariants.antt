use Rattle.std.proofs.Common.{◌≡◌, drop}
use Rattle.rule_trace.specs.Coverage.{hit_lines, with_lines}
use Rattle.rule_trace.proofs.coverage.add_all.Given as goal

abbrev pub invariant-loop-line : goal.invariant-loop-line
invariant-loop-line l =
    (with_lines (drop l.line-index l.lines) l.hits ≡ with_lines l.lines l.fn.hits) × (hit_lines l.hits ≡ hit_lines l.fn.hits)
