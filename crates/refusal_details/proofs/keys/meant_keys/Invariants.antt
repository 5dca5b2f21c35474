use Rattle.std.proofs.Common.{◌≡◌}
use Rattle.refusal_details.specs.Keys.{meant_below}
use Rattle.refusal_details.proofs.keys.meant_keys.Given as goal

abbrev pub invariant-loop-code : goal.invariant-loop-code
invariant-loop-code l = l.names ≡ meant_below l.word l.code
