use Rattle.std.proofs.Common.{◌≡◌}
use Rattle.rule_model.specs.Match.{same_value}
use Rattle.rule_matching.specs.StoreValues.{elements_in}
use Rattle.rule_matching.proofs.store_value.StoreValue.is_same.Given as goal

abbrev pub invariant-loop-element : goal.invariant-loop-element
invariant-loop-element l =
    same_value (elements_in l.element-iterator) (elements_in l.other) ≡ same_value (elements_in l.fn.self) (elements_in l.fn.other)
