use Rattle.std.proofs.Common.{◌≡◌, ◌++◌, [], drop, flat_map, unwrap_or}
use Rattle.shadow_text.specs.declared.verdicts.Verdict.{Verdict}
use Rattle.shadow_text.specs.DeadLines.{of_line}
use Rattle.shadow_text.proofs.dead_lines.lines_before.Given as goal

abbrev pub invariant-loop-verdict : goal.invariant-loop-verdict
invariant-loop-verdict l =
    l.lines.items ++ flat_map (λ (verdict : Verdict). unwrap_or verdict.by []) (of_line (drop l.verdict-index l.all) l.line)
    ≡ flat_map (λ (verdict : Verdict). unwrap_or verdict.by []) (of_line l.all l.line)
