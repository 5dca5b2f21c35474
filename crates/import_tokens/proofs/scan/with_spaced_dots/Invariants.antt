use Rattle.std.proofs.Common.{◌≡◌, ◌++◌, length}
use Rattle.import_tokens.specs.Scan.{scan_start, with_spaced_dots}
use Rattle.import_tokens.proofs.scan.with_spaced_dots.Given as goal

abbrev pub invariant-loop-rest : goal.invariant-loop-rest
invariant-loop-rest l = l.spaced ++ with_spaced_dots l.state l.rest ≡ with_spaced_dots scan_start l.fn.text

abbrev pub decreases-loop-rest : goal.decreases-loop-rest
decreases-loop-rest l = length l.rest
