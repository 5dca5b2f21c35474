use Rattle.std.proofs.Common.{◌≡◌, drop}
use Rattle.rule_checker.specs.Walking.{with_values}
use Rattle.rule_checker.proofs.totals.add_values.Given as goal

abbrev pub invariant-loop-item : goal.invariant-loop-item
invariant-loop-item l = with_values l.totals (drop l.item-index l.items) ≡ with_values l.initial.totals l.items
