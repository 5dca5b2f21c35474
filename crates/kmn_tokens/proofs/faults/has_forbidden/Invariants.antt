use Rattle.std.proofs.Common.{◌≡◌, ◌-◌, ◌≤◌, length, drop}
use Rattle.kmn_lines.specs.Tokens.{has_forbidden}
use Rattle.kmn_tokens.proofs.faults.has_forbidden.Given as goal

abbrev pub invariant-loop-at : goal.invariant-loop-at
invariant-loop-at l = (l.at ≤ length l.text) × (has_forbidden (drop l.at l.text) ≡ has_forbidden l.text)

abbrev pub decreases-loop-at : goal.decreases-loop-at
decreases-loop-at l = length l.text - l.at
