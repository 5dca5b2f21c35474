use Rattle.std.proofs.Common.{◌≡◌, ◌+◌, ◌-◌}
use Rattle.import_tokens.specs.Ranges.{counted}
use Rattle.import_tokens.proofs.ranges.between.Given as goal

abbrev pub invariant-loop-code : goal.invariant-loop-code
invariant-loop-code l = l.characters ≡ counted (l.fn.first + 1) (l.code - (l.fn.first + 1))
