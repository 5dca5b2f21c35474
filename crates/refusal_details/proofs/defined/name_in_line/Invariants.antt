use Rattle.std.proofs.Common.{◌≡◌, drop}
use Rattle.refusal_details.specs.Defined.{name_in_line}
use Rattle.refusal_details.proofs.defined.name_in_line.Given as goal

abbrev pub invariant-loop-definition : goal.invariant-loop-definition
invariant-loop-definition l = name_in_line l.line (drop l.definition-index l.definitions) ≡ name_in_line l.line l.definitions
