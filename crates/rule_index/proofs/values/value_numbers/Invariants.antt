use Rattle.rule_index.specs.Values.{known_in}
use Rattle.rule_index.proofs.Numbering.{AreKnown}
use Rattle.rule_index.proofs.values.value_numbers.Given as goal

abbrev pub invariant-loop-place : goal.invariant-loop-place
invariant-loop-place l = AreKnown l.values (known_in l.known) l.numbers.items l.place
