use Rattle.std.proofs.Common.{◌≡◌, ◌++◌, true, drop}
use Rattle.import_lines.specs.Written.{spaced}
use Rattle.import_lines.proofs.written.add_spaced.Given as goal

abbrev pub invariant-loop-token : goal.invariant-loop-token
invariant-loop-token l = l.text ++ spaced l.joined (drop l.token-index l.tokens) ≡ l.initial.text ++ spaced true l.tokens
