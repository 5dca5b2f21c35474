use Rattle.std.proofs.Common.{◌≡◌, ◌+◌, ◌-◌, ◌≤◌, length, drop}
use Rattle.kmn_lines.specs.Tokens.{quoted_size}
use Rattle.refusal_places.proofs.sizes.quoted_size.Given as goal

abbrev pub invariant-loop-size : goal.invariant-loop-size
invariant-loop-size l = (l.size ≤ length l.text) × (l.size + quoted_size l.quote (drop l.size l.text) ≡ quoted_size l.quote l.text)

abbrev pub decreases-loop-size : goal.decreases-loop-size
decreases-loop-size l = length l.text - l.size
