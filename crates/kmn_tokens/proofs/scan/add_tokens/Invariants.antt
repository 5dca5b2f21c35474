use Rattle.std.proofs.Common.{◌≡◌, ◌-◌, length, drop, ◌++◌}
use Rattle.kmn_lines.specs.Tokens.{scanned, first_fault}
use Rattle.kmn_tokens.proofs.scan.add_tokens.Given as goal

abbrev pub invariant-loop-at : goal.invariant-loop-at
invariant-loop-at l =
    (l.out ++ scanned l.line 0 l.at (drop l.at l.bytes) ≡ l.initial.out ++ scanned l.line 0 l.from (drop l.from l.bytes))
    × (first_fault 0 (drop l.at l.bytes) ≡ first_fault 0 (drop l.from l.bytes))

abbrev pub decreases-loop-at : goal.decreases-loop-at
decreases-loop-at l = length l.bytes - l.at
