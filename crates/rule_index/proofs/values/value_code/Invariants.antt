use Rattle.std.proofs.Common.{◌≡◌, ◌++◌, drop}
use Rattle.rule_index.specs.Values.{value_code}
use Rattle.rule_index.proofs.values.value_code.Given as goal

abbrev pub invariant-loop-element : goal.invariant-loop-element
invariant-loop-element l = l.code ++ value_code (drop l.element-index l.elements) ≡ value_code l.elements
