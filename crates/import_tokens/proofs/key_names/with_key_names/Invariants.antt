use Rattle.std.proofs.Common.{◌≡◌, ◌++◌, length}
use Rattle.import_tokens.specs.Bounds.{no_token}
use Rattle.import_tokens.specs.Keys.{with_key_names}
use Rattle.import_tokens.proofs.key_names.with_key_names.Given as goal

abbrev pub invariant-loop-rest : goal.invariant-loop-rest
invariant-loop-rest l = l.named ++ with_key_names l.state l.rest ≡ with_key_names no_token l.fn.tokens

abbrev pub decreases-loop-rest : goal.decreases-loop-rest
decreases-loop-rest l = length l.rest
