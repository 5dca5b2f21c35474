use Rattle.std.proofs.Common.{◌≡◌, ◌<◌, All, map, take}
use Rattle.rule_index.specs.Elements.{element_number}
use Rattle.rule_index.proofs.elements.element_numbers.Given as goal

abbrev pub invariant-loop-element : goal.invariant-loop-element
invariant-loop-element l = record {
  value : l.numbers.items ≡ map element_number (take l.element-index l.elements);
  small : All (λ number. number < 4194304) l.numbers.items;
}
