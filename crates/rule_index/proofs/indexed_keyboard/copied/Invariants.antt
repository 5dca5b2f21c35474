use Rattle.std.proofs.Common.{◌≡◌, ◌++◌}
use Rattle.rule_index.proofs.indexed_keyboard.copied.Given as goal

abbrev pub invariant-loop-element : goal.invariant-loop-element
invariant-loop-element l = l.copied.items ++ l.element-iterator ≡ l.store.elements
