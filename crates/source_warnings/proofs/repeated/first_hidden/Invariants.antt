use Rattle.std.proofs.Common.{◌≡◌, drop}
use Rattle.source_warnings.specs.Repeated.{first_hidden}
use Rattle.source_warnings.proofs.repeated.first_hidden.Given as goal

abbrev pub invariant-loop-place : goal.invariant-loop-place
invariant-loop-place l = first_hidden l.names l.partners l.place (drop l.place l.elements) ≡ first_hidden l.names l.partners 0 l.elements
