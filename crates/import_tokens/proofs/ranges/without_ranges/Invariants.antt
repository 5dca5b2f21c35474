use Rattle.std.proofs.Common.{◌≡◌, ◌++◌, length}
use Rattle.import_tokens.specs.Bounds.{no_token}
use Rattle.import_tokens.specs.Ranges.{without_ranges}
use Rattle.import_tokens.proofs.ranges.without_ranges.Given as goal

abbrev pub invariant-loop-rest : goal.invariant-loop-rest
invariant-loop-rest l = l.out ++ without_ranges l.left l.state l.rest ≡ without_ranges l.fn.elements no_token l.fn.tokens

abbrev pub decreases-loop-rest : goal.decreases-loop-rest
decreases-loop-rest l = length l.rest
