use Rattle.std.proofs.Common.{◌≡◌, drop}
use Rattle.rule_expand.specs.Values.{with_values}
use Rattle.rule_expand.proofs.values.add_items.Given as goal

abbrev pub invariant-loop-item : goal.invariant-loop-item
invariant-loop-item l = with_values l.values (drop l.item-index l.items) ≡ with_values l.initial.values l.items
