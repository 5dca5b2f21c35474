use Rattle.std.proofs.Common.{◌≡◌, [], drop}
use Rattle.source_warnings.specs.SameKeys.{repeated_after}
use Rattle.source_warnings.proofs.same_keys.repeated.Given as goal

abbrev pub invariant-loop-c : goal.invariant-loop-c
invariant-loop-c l = repeated_after l.once.keys l.again.keys (drop l.c-index l.characters) ≡ repeated_after [] [] l.characters
