use Rattle.std.proofs.Common.{◌≡◌, drop}
use Rattle.refusal_details.specs.Defined.{first_line}
use Rattle.refusal_details.proofs.defined.first_line.Given as goal

abbrev pub invariant-loop-definition : goal.invariant-loop-definition
invariant-loop-definition l = first_line l.name (drop l.definition-index l.definitions) ≡ first_line l.name l.definitions
