use Rattle.std.proofs.Common.{◌≡◌, ◌++◌}
use Rattle.rule_index.proofs.contexts.copied.Given as goal

abbrev pub invariant-loop-item : goal.invariant-loop-item
invariant-loop-item l = l.copied.items ++ l.item-iterator ≡ l.fn.context
